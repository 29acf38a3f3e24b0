-- Late and ready by products alone: no division, and no case for a time before the origin. Assumes nothing.
use mathlib.Core.Path.{◌≡◌, ap}
use mathlib.Core.Logic.{◌↔◌}
use Prim.Native.Nat.{ℕ, ◌+◌, ◌-◌, ◌*◌, ◌/◌, ◌≤◌, ◌<◌}
use native.Mathlib.Nat.{div-lt_iff_lt-mul, lt_of_mul-lt-mul_left}
use native.Mathlib.Omega.{arith}
use Rattle.facts.specs.Rounding.{ceil_div}
use Rattle.facts.proofs.Rounding.{ceil_is_enough, below_ceil_falls_short}
use Rattle.windows.specs.Windows.{start, deadline, job_start}

-- for callers

module _ (e p o : ℕ) (he : 0 < e) where
  -- W4, late: the next deadline is at or before t exactly when q + 1 quanta are owed at t.
  pub late_means_owed : 0 < p → (q t : ℕ) → (deadline e p o (q + 1) ≤ t) ↔ (p * (q + 1) ≤ e * (t - o))
  unfolding deadline
  late_means_owed hp q t = (
    λ l. let m = (ceil_is_enough {a = (q + 1) * p} {x = t - o} he).0 (omega arith) in omega arith,
    λ l.
        let m = (ceil_is_enough {a = (q + 1) * p} {x = t - o} he).1 (omega arith) in
        omega (arith, lt_of_mul-lt-mul_left e {m = 0} {n = t - o} (omega arith)),
  )

  -- W5, ready: the next subtask has started by slot t exactly when q quanta are less than the share at the slot's end.
  pub started_means_share_left : (q t : ℕ) → (start e p o (q + 1) ≤ t) ↔ (p * q < e * (t + 1 - o))
  unfolding start
  started_means_share_left q t =
      let same : (q + 1 - 1) * p / e ≡ q * p / e = ap (λ x. x * p / e) {x = q + 1 - 1} {y = q} (omega arith) in (
        λ l. let m = (div-lt_iff_lt-mul {x = q * p} {y = t + 1 - o} he).0 (omega arith) in omega arith,
        λ l. let m = (div-lt_iff_lt-mul {x = q * p} {y = t + 1 - o} he).1 (omega arith) in omega arith,
      )

  -- W6, ready early: the job of the next subtask has started by slot t exactly when q quanta are less than the cost of all jobs
  -- released by then.
  pub job_started_means_cost_left : 0 < p → (q t : ℕ) → (job_start e p o (q + 1) ≤ t) ↔ (q < e * ceil_div (t + 1 - o) p)
  unfolding job_start
  job_started_means_cost_left hp q t =
      let same : (q + 1 - 1) / e * p ≡ q / e * p = ap (λ x. x / e * p) {x = q + 1 - 1} {y = q} (omega arith) in (
        λ l.
            let job = (below_ceil_falls_short {a = t + 1 - o} {x = q / e} hp).1 (omega arith) in
            let m = (div-lt_iff_lt-mul {x = q} {y = ceil_div (t + 1 - o) p} he).0 job in
            omega arith,
        λ l.
            let m = (div-lt_iff_lt-mul {x = q} {y = ceil_div (t + 1 - o) p} he).1 (omega arith) in
            let job = (below_ceil_falls_short {a = t + 1 - o} {x = q / e} hp).0 m in
            omega arith,
      )
