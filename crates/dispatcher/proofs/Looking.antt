-- Where a row stands, by the products of its share and of what it has had. Assumes nothing.
use Prim.Native.Nat.{ℕ, ◌+◌, ◌-◌, ◌*◌, ◌/◌, ◌%◌, ◌≤◌, ◌<◌, min}
use mathlib.Core.Path.{◌≡◌, refl, sym, ap, ◌∙◌}
use mathlib.Core.Bool.{Bool, true, false, cond}
use native.Mathlib.Nat.{mul-le-mul, mul-le-mul_left, mul-le-mul_right, lt_of_mul-lt-mul_right, le-pred_of_lt}
use native.Mathlib.Decide.{dec_lt}
use native.Mathlib.Omega.{arith}
use borrow.Author.Tests.{lt-ltb, le-ltb, ltb-true}
use lib.Dec.{ltb}
use Rattle.std.proofs.lemmas.Grind.{div_ceil_times}
use Rattle.facts.specs.Rounding.{ceil_div}
use Rattle.facts.proofs.Tests.{both}
use Rattle.facts.proofs.Rounding.{ceil_between, ceil_is_enough, ceil_is_near, ceil_grows}
use Rattle.table.specs.declared.Row.{Row}
use Rattle.pd2.specs.Ready.{origin_of, is_early_release, ready}
use Rattle.counts.specs.Limits.{most, time_limit}
use Rattle.pd2.specs.Order.{rank_of}
use Rattle.pd2.specs.Share.{elapsed, lower, upper, within, CanBe}
use Rattle.pd2.proofs.Verdicts.{lower_is}
use Rattle.pd2.proofs.Readiness.{ready_is_past_origin}
use Rattle.pd2.proofs.Standing.{Stands, owed_is_outside, ahead_is_ready, ahead_waits, ahead_is_outside, released_is_ready, released_waits, released_is_outside, behind_is_ready, waits_for_phase, had_before_phase}
use Rattle.choice.specs.Keys.{front_of, HasKey}
use Rattle.choice.proofs.KeyOrder.{rank_has_key}
use Rattle.choice.proofs.Lacking.{whole_key, below_one, how_far, part_key, lacks_few_slots}
use Rattle.dispatcher.specs.declared.Stand.{Stand}
use Rattle.dispatcher.specs.declared.Stand.TheVariants.{Breaks, Waits, Ready}
use Rattle.dispatcher.specs.Usable.{broken_row}
use Rattle.dispatcher.specs.Looking.{stand_of, ahead_stand, CanBeReady}

-- Products of a number of slots, quanta or jobs, up to a period past the time limit, and a number of the table are far from 64 bits.
pub product_is_small : {n f : ℕ} → n ≤ time_limit + 65_536 → f < 65_536 → n * f < (time_limit + 65_536) * 65_536
product_is_small {n} h k = omega (arith, mul-le-mul {n₁ = n} h (le-pred_of_lt k))

-- Rounded up as it is computed; it is no more than what is divided.
pub div_ceil_is : (a b : ℕ) → 0 < b → a / b + min 1 (a % b) ≡ ceil_div a b
div_ceil_is a b some = let near = div_ceil_times a b some in sym (ceil_between a b (a / b + min 1 (a % b)) some near.0 near.1)

pub ceil_is_less : (a b : ℕ) → 0 < b → ceil_div a b ≤ a
ceil_is_less a b some = (ceil_is_enough {a = a} {b = b} {x = a} some).1 (omega (arith, mul-le-mul_left {m = 1} {n = b} a some))

module _ (row : Row) (q t : ℕ) where
  -- What is said of a row.
  abbrev pub said : Stand
  said = stand_of (broken_row false t row q) (ready row q t)

  -- Its quanta exceed the time,
  pub past_time : t < q → Breaks ≡ said
  past_time more = rw (lt-ltb t q more) refl

  module _ (few : q ≤ t) where
    -- or it is outside its share,
    outside : within row q t ≡ false → Breaks ≡ said
    outside not_inside = rw (le-ltb t q few, not_inside) refl

    -- or neither.
    stands : {is_ready : Bool} → Stands row q t true is_ready → cond is_ready Ready Waits ≡ said
    stands so = rw (le-ltb t q few, so.share, so.next) refl

    module _ (can : CanBe row) where
      -- Before the phase
      pub before_phase : t < origin_of row → q ≡ 0 → Waits ≡ said
      before_phase early none = stands (waits_for_phase row can q t early none)

      pub given_before_phase : t < origin_of row → (q ≡ 0 → ⊥) → Breaks ≡ said
      given_before_phase early some = outside (had_before_phase row can q t early some)

      -- and from then on.
      module _ (a : ℕ) {share had : ℕ} (from : t ≡ origin_of row + a) (s : share ≡ a * row.cost) (h : had ≡ q * row.period) where
        now : elapsed row t ≡ a
        now = omega arith

        then : elapsed row (t + 1) ≡ a + 1
        then = omega arith

        pub owed : had + row.period ≤ share → Breaks ≡ said
        owed whole = outside (owed_is_outside row can q t now then s h whole)

        module _ (low : share < had + row.period) where
          pub behind : had ≤ share → Ready ≡ said
          behind less = stands (behind_is_ready row can q t now then s h low less (omega arith))

          module _ (plain : is_early_release row ≡ false) where
            pub ahead_but_ready : had < share + row.cost → Ready ≡ said
            ahead_but_ready less = stands (ahead_is_ready row can q t now then s h low plain (omega (arith, s)) (omega (arith, can.weight)))

            pub ahead_and_waits : share + row.cost ≤ had → had < share + row.period → Waits ≡ said
            ahead_and_waits more less = stands (ahead_waits row can q t now then s h low plain (omega (arith, s)) less)

            pub ahead_and_outside : share + row.period ≤ had → Breaks ≡ said
            ahead_and_outside more = outside (ahead_is_outside row can q t now then s h low plain more)

          -- An early-release row that is ahead, by the jobs released.
          pub ahead_by_jobs : share < had → is_early_release row ≡ true → ahead_stand row.cost row.period q a ≡ said
          unfolding ahead_stand
          ahead_by_jobs more early = go (dec_lt q released) (dec_lt released q)
            where
              jobs : ℕ
              jobs = ceil_div a row.period

              released : ℕ
              released = jobs * row.cost

              some : 0 < row.period
              some = omega (arith, can.cost, can.weight)

              near : (a ≤ jobs * row.period) × (jobs * row.period < a + row.period)
              near = ceil_is_near a some

              -- one slot on no fewer are released,
              grows : jobs * row.cost ≤ ceil_div (a + 1) row.period * row.cost
              grows = mul-le-mul_right row.cost (ceil_grows row.period some (omega arith))

              -- and no more, if it has had all
              stays : q ≡ released → ceil_div (a + 1) row.period ≡ jobs
              stays all =
                  let inside : a < jobs * row.period = lt_of_mul-lt-mul_right row.cost {m = a} {n = jobs * row.period} (omega (arith, s, h, more, ap (λ x. x * row.period) all)) in
                  ceil_between (a + 1) row.period jobs some (omega arith) (omega (arith, near))

              go : Dec (q < released) → Dec (released < q) → stand_of (ltb released q) (ltb q released) ≡ said
              go (yes l) m =
                  rw (le-ltb released q (omega arith), lt-ltb q released l) (stands (released_is_ready row can q t now then s h low early (omega arith) (omega (arith, grows))))
              go (no l) (yes m) =
                  rw (lt-ltb released q m) (outside (released_is_outside row can q t now then s h low early m))
              go (no l) (no m) =
                  let all : q ≡ released = omega arith in
                  rw (le-ltb released q (omega arith), le-ltb q released (omega arith))
                  (stands (released_waits row can q t now then s h low early (omega arith) (omega (arith, ap (λ x. x * row.cost) (stays all)))))

-- What the code finds of an early-release row that is ahead.
module _ (cost period q a : ℕ) {jobs : ℕ} (same : jobs ≡ ceil_div a period) where
  pub ahead_ready : q < jobs * cost → Ready ≡ ahead_stand cost period q a
  unfolding ahead_stand
  ahead_ready l = rw (← same, le-ltb (jobs * cost) q (omega arith), lt-ltb q (jobs * cost) l) refl

  pub ahead_outside : jobs * cost < q → Breaks ≡ ahead_stand cost period q a
  unfolding ahead_stand
  ahead_outside l = rw (← same, lt-ltb (jobs * cost) q l) refl

  pub ahead_waits_on : jobs * cost ≤ q → q ≤ jobs * cost → Waits ≡ ahead_stand cost period q a
  unfolding ahead_stand
  ahead_waits_on l m = rw (← same, le-ltb (jobs * cost) q m, le-ltb q (jobs * cost) l) refl

-- A ready row of a state,
module _ (row : Row) (q t : ℕ) (so : CanBeReady row q t) where
  -- past its phase,
  pub past_phase : origin_of row ≤ t
  past_phase = ready_is_past_origin row q t so.next

  -- is owed less than a quantum.
  pub owed_less : (t - origin_of row) * row.cost < q * row.period + row.period
  owed_less =
      ltb-true ((t - origin_of row) * row.cost) (q * row.period + row.period)
      (lower_is row q t refl refl ∙ (both (lower row q t) (upper row q t) so.inside).0)

  module _ {lacking : ℕ} (is : lacking ≡ q * row.period + row.period - (t - origin_of row) * row.cost) where
    sum : (q + 1) * row.period ≡ lacking + (t - origin_of row) * row.cost
    sum = omega (arith, owed_less)

    from : t ≡ origin_of row + (t - origin_of row)
    from = omega (arith, past_phase)

    -- So much is lacking: fewer slots than a period has.
    pub few_slots : lacking / row.cost ≤ row.period
    few_slots = lacks_few_slots row so.can q t (t - origin_of row) lacking from sum so.next

    module _ (cost : row.cost < 65_536) where
      has : HasKey (rank_of row 0 q)
      has =
          rank_has_key row 0 q false (record { cost = so.can.cost; weight = so.can.weight; quanta = omega (arith, so.quanta, so.time) }) cost (omega arith)

      -- How its key begins, whatever its end.
      pub key_of_whole : (end : ℕ) {rest key : ℕ} → rest ≡ lacking % row.cost → rest ≡ 0 →
          (key ≡ ((2 * (t + lacking / row.cost) + 1) * 65_536 + (65_535 - 0)) * 64 + end) × (key < most) →
          (key ≡ front_of (rank_of row 0 q) * 64 + end) × (key < most) × HasKey (rank_of row 0 q)
      key_of_whole end r whole k =
          (k.0 ∙ ap (λ front. front * 64 + end) (sym (whole_key row so.can q t (t - origin_of row) lacking from sum (sym r ∙ whole))), k.1, has)

      module _ (part : lacking % row.cost ≡ 0 → ⊥) where
        pub below_period : row.cost < row.period
        below_period = below_one row so.can q t (t - origin_of row) lacking from sum part

        pub key_of_part : (end : ℕ) {far key : ℕ} → far ≡ cond (ltb (2 * row.cost) row.period) 0 (ceil_div (row.cost - lacking % row.cost) (row.period - row.cost)) →
            (key ≡ ((2 * (t + lacking / row.cost) + 2) * 65_536 + (65_535 - far)) * 64 + end) × (key < most) →
            (key ≡ front_of (rank_of row 0 q) * 64 + end) × (key < most) × HasKey (rank_of row 0 q)
        key_of_part end f k =
            let front = part_key row so.can q t (t - origin_of row) lacking from sum part (how_far row so.can q t (t - origin_of row) lacking from sum part ∙ sym f) in
            (k.0 ∙ ap (λ front. front * 64 + end) (sym front), k.1, has)
