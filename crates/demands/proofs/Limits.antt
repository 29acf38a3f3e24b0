-- The limits of demand 3 are those of 01's share. Assumes nothing.
use Prim.Native.Nat.{ℕ, ◌≤◌}
use mathlib.Core.Path.{◌≡◌, refl}
use mathlib.Core.Bool.{Bool, true, false}
use mathlib.Core.Logic.{◌↔◌}
use Rattle.table.specs.declared.Row.{Row}
use Rattle.pd2.specs.Ready.{is_early_release}
use Rattle.pd2.specs.Share.{upper, within, CanBe}
use Rattle.pd2.proofs.Share.{jobs_released, upper_means_share_rounded_up, upper_means_cost_of_jobs_released, plain_within_means_share, early_release_within_means_share}
use Rattle.demands.specs.Limits.{upper_limit, InLimits}

-- The limits of a row that can be, in the demand's words: by its kind.
module _ (row : Row) (can : CanBe row) (q t : ℕ) where
  pub in_limits : (within row q t ≡ true) ↔ InLimits row q t
  unfolding jobs_released
  in_limits = go (is_early_release row) refl
    where
      go : (kind : Bool) → is_early_release row ≡ kind → (within row q t ≡ true) ↔ InLimits row q t
      go true e =
          let means = early_release_within_means_share row can e q t in
          (λ h. record { at_least = (means.0 h).0; at_most = rw e (means.0 h).1 }, λ l. means.1 (l.at_least, rw e at l.at_most))
      go false e =
          let means = plain_within_means_share row can e q t in
          (λ h. record { at_least = (means.0 h).0; at_most = rw e (means.0 h).1 }, λ l. means.1 (l.at_least, rw e at l.at_most))

  pub upper_limit_is : upper row q t ≡ true → q ≤ upper_limit row t
  unfolding jobs_released
  upper_limit_is = go (is_early_release row) refl
    where
      go : (kind : Bool) → is_early_release row ≡ kind → upper row q t ≡ true → q ≤ upper_limit row t
      go true e h = rw e ((upper_means_cost_of_jobs_released row can e q t).0 h)
      go false e h = rw e ((upper_means_share_rounded_up row can e q t).0 h)
