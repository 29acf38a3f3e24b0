-- Cores by hand (02, One), computed.
use Rattle.std.specs.Prelude.{◌≡◌, [], ◌∷◌}
use Rattle.cores.specs.Placement.{nobody, placement}
use Rattle.cores.specs.Best.{moves}
use Rattle.cores.specs.Cores.{cores_for}

pub record Examples : Type 0 where
  -- A row that did not run in the slot before does not move; one that ran moves only to another core.
  pub new_row_does_not_move : moves nobody (0 ∷ []) (1 ∷ []) ≡ 0
  pub moved_to_another : moves (placement (5 ∷ 7 ∷ []) (0 ∷ 2 ∷ [])) (2 ∷ 5 ∷ 7 ∷ []) (1 ∷ 0 ∷ 3 ∷ []) ≡ 1
  -- Row 0 is new, row 1 ran on core 0. The lowest core for the lowest row would move row 1; it stays, and row 0 takes core 1.
  pub staying_goes_first : cores_for (placement (1 ∷ []) (0 ∷ [])) (0 ∷ 1 ∷ []) (0 ∷ 1 ∷ []) ≡ 1 ∷ 0 ∷ []
  -- Rows 5 and 7 ran on cores 0 and 2, and core 2 is not free: row 7 must move, row 5 stays, and row 2 takes the lowest that is left.
  pub lowest_is_taken : cores_for (placement (5 ∷ 7 ∷ []) (0 ∷ 2 ∷ [])) (0 ∷ 1 ∷ 3 ∷ []) (2 ∷ 5 ∷ 7 ∷ []) ≡ 1 ∷ 0 ∷ 3 ∷ []
  -- A row that must move does not take the core of one that stays: row 0 ran on core 0, which is not free, and row 1 on core 1.
  pub moving_leaves_stayers : cores_for (placement (0 ∷ 1 ∷ []) (0 ∷ 1 ∷ [])) (1 ∷ 2 ∷ []) (0 ∷ 1 ∷ []) ≡ 2 ∷ 1 ∷ []
