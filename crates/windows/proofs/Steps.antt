-- One subtask more: its deadline, its start and the start of its job, by those of the subtask before it. Assumes nothing.
use mathlib.Core.Path.{◌≡◌, refl, sym, ap, ◌∙◌}
use Prim.Native.Nat.{ℕ, ◌+◌, ◌-◌, ◌*◌, ◌/◌, ◌%◌, ◌≤◌, ◌<◌}
use native.Mathlib.Nat.{add-mul-div_right, add-mul-mod_self_right, div-add-mod', div-eq_of_lt, div-eq_of_lt-le, mod-eq_of_lt, mul-add-mod_self_right, mul-mod_left}
use native.Mathlib.Decide.{ℕ_discrete}
use native.Mathlib.Omega.{arith}
use Rattle.facts.proofs.Rounding.{ceil_by_quotient, floor_is_near}
use Rattle.windows.specs.Windows.{start, deadline, job_start}
use Rattle.windows.proofs.Windows.{bit_of_whole, bit_of_part, deadline_parts, deadline_between, start_between, deadline_rises, next_start_is_deadline_less_bit}

module _ (e p o : ℕ) (he : 0 < e) where
  -- i·p/e is rounded up by dividing i·p + e - 1; what that leaves over,
  abbrev rest : ℕ → ℕ
  rest i = (i * p + (e - 1)) % e

  -- and what it gives.
  by_quotient : (i : ℕ) → deadline e p o i ≡ o + (i * p + (e - 1)) / e
  by_quotient i = deadline_parts e p o i ∙ ap (λ x. o + x) (sym (ceil_by_quotient (i * p) e))

  -- one p more is divided
  one_more : (i : ℕ) → (i + 1) * p + (e - 1) ≡ rest i + p + (i * p + (e - 1)) / e * e
  one_more i = omega (arith, div-add-mod' (i * p + (e - 1)) e)

  -- for callers

  -- The first start, and that of the first job, are the origin;
  pub first_start : start e p o 1 ≡ o
  first_start = omega (arith, start_between e p o 1 0 (omega arith) (omega arith))

  pub first_job_start : job_start e p o 1 ≡ o
  unfolding job_start
  first_job_start = omega (arith, ap (λ x. x * p) (div-eq_of_lt {n = 0} {m = e} he))

  -- the first deadline,
  pub first_deadline : deadline e p o 1 ≡ o + (p + (e - 1)) / e
  first_deadline = by_quotient 1 ∙ ap (λ x. o + (x + (e - 1)) / e) {x = 1 * p} {y = p} (omega arith)

  -- and the next: what is left over is divided on, with one p more,
  pub next_deadline : (i : ℕ) → deadline e p o (i + 1) ≡ deadline e p o i + (rest i + p) / e
  next_deadline i =
      omega (arith, by_quotient i, by_quotient (i + 1), ap (λ x. x / e) (one_more i), add-mul-div_right (rest i + p) ((i * p + (e - 1)) / e) he)

  -- which leaves over what the next leaves.
  pub next_rest : (i : ℕ) → rest (i + 1) ≡ (rest i + p) % e
  next_rest i = ap (λ x. x % e) (one_more i) ∙ add-mul-mod_self_right (rest i + p) ((i * p + (e - 1)) / e) e

  -- All but one of e is left over exactly where e divides i·p,
  whole_leaves_most : (i : ℕ) → i * p % e ≡ 0 → rest i + 1 ≡ e
  whole_leaves_most i h =
      let same : i * p + (e - 1) ≡ i * p / e * e + (e - 1) = omega (arith, div-add-mod' (i * p) e) in
      omega (arith, ap (λ x. x % e) same, mul-add-mod_self_right (i * p / e) e (e - 1), mod-eq_of_lt {n = e - 1} {m = e} (omega arith))

  most_left_is_whole : (i : ℕ) → rest i + 1 ≡ e → i * p % e ≡ 0
  most_left_is_whole i h =
      ap (λ x. x % e) {x = i * p} {y = (i * p + (e - 1)) / e * e} (omega (arith, div-add-mod' (i * p + (e - 1)) e))
      ∙ mul-mod_left ((i * p + (e - 1)) / e) e

  -- so the next start is the deadline there,
  pub next_start_of_whole : (i : ℕ) → rest i + 1 ≡ e → start e p o (i + 1) ≡ deadline e p o i
  next_start_of_whole i h = omega (arith, next_start_is_deadline_less_bit e p o he i, bit_of_whole e p i (most_left_is_whole i h))

  -- and else a slot before it.
  pub next_start_of_part : (i : ℕ) → (rest i + 1 ≡ e → ⊥) → start e p o (i + 1) ≡ deadline e p o i - 1
  next_start_of_part i h = omega (arith, next_start_is_deadline_less_bit e p o he i, bit_of_part e p i (λ z. h (whole_leaves_most i z)))

  module _ (hp : e ≤ p) {i : ℕ} (hi : 0 < i) where
    -- how many jobs lie before that of subtask i
    abbrev jobs : ℕ
    jobs = (i - 1) / e

    -- when it starts, and when that of the next subtask does
    job_starts : job_start e p o i ≡ o + jobs * p
    unfolding job_start
    job_starts = refl

    next_job : job_start e p o (i + 1) ≡ o + i / e * p
    unfolding job_start
    next_job = ap (λ x. o + x / e * p) {x = i + 1 - 1} {y = i} (omega arith)

    -- the last subtask of a job is due at its end, the others before it
    due_at_end : (jobs + 1) * e ≡ i → deadline e p o i ≡ o + (jobs + 1) * p
    due_at_end last =
        let same : i * p ≡ (jobs + 1) * e * p = ap (λ x. x * p) (sym last) in
        deadline_between e p o i he ((jobs + 1) * p) (omega arith) (omega arith)

    due_before_end : i < (jobs + 1) * e → deadline e p o i < o + (jobs + 1) * p
    due_before_end l =
        omega (arith, deadline_rises e p o he hp l, deadline_between e p o ((jobs + 1) * e) he ((jobs + 1) * p) (omega arith) (omega arith))

    last_or_not : Dec ((jobs + 1) * e ≡ i)
    last_or_not = ℕ_discrete ((jobs + 1) * e) i

    -- A subtask that is due where its job ends is the job's last, and the next job starts there;
    pub next_job_starts : deadline e p o i ≡ job_start e p o i + p → job_start e p o (i + 1) ≡ deadline e p o i
    next_job_starts due = go last_or_not
      where
        go : Dec ((jobs + 1) * e ≡ i) → job_start e p o (i + 1) ≡ deadline e p o i
        go (yes last) =
            omega (arith, next_job, due_at_end last, ap (λ x. x * p) (div-eq_of_lt-le {k = jobs + 1} e {m = i} (omega arith) (omega arith)))
        go (no other) = absurd (omega (arith, job_starts, due_before_end (omega (arith, floor_is_near (i - 1) he))))

    -- after any other the job goes on.
    pub job_goes_on : (deadline e p o i ≡ job_start e p o i + p → ⊥) → job_start e p o (i + 1) ≡ job_start e p o i
    job_goes_on due = go last_or_not
      where
        go : Dec ((jobs + 1) * e ≡ i) → job_start e p o (i + 1) ≡ job_start e p o i
        go (yes last) = absurd (due (omega (arith, job_starts, due_at_end last)))
        go (no other) =
            let near = floor_is_near (i - 1) he in
            omega (arith, next_job, job_starts, ap (λ x. x * p) (div-eq_of_lt-le {k = jobs} e {m = i} (omega (arith, near)) (omega (arith, near))))
