-- Nobody is ever late. Assumes nothing.
use Prim.Native.Nat.{ℕ, ◌+◌, ◌≤◌, ◌<◌}
use mathlib.Core.Path.{◌≡◌, ◌∙◌}
use mathlib.Core.Bool.{Bool}
use native.Mathlib.Decide.{dec_le}
use native.Mathlib.Omega.{arith}
use Rattle.windows.proofs.Half.{up_to_half_has_none}
use Rattle.table.specs.declared.Row.{Row}
use Rattle.pd2.specs.Ready.{origin_of}
use Rattle.pd2.specs.Order.{Rank, rank_of, with_favour, Before, before}
use Rattle.pd2.specs.Choice.{row_at, quanta_at, ready_in, goes_before_by}
use Rattle.pd2.proofs.Readiness.{started_is_ready, not_late_before_deadline}
use Rattle.pd2.proofs.Order.{before_means_rule}
use Rattle.pd2.proofs.Choice.{pd2_is_strict}
use Rattle.optimal.specs.Box.{Box}
use Rattle.optimal.specs.Allows.{ByDeadline, ByPd2}
use Rattle.optimal.specs.Course.{Course}
use Rattle.optimal.specs.NeverLate.{NobodyIsLate, NeverLateOneCore, NeverLateTwoCores, NeverLateUpToHalf, NeverLate, Pd2NeverLate}
use Rattle.optimal.specs.Fluid.{OnTime}
use Rattle.optimal.proofs.TwoCores.{greedy_is_on_time_on_two}
use Rattle.optimal.proofs.Descent.{greedy_is_on_time}
use Rattle.optimal.proofs.Steady.{extension_is_ext}
use Rattle.optimal.proofs.Rows.{due_means}
use Rattle.optimal.proofs.Greedy.{setting, cuts_are_greedy, ext, extensions_are_greedy}

-- In a course held to one rule the order is held to another, where the one implies the other.
held_to : {n : ℕ} {row : ℕ → Row} {cores H : ℕ} {allows others : Rank → Rank → Type 0} {q : ℕ → ℕ → ℕ} {ready : ℕ → ℕ → Bool}
    {goes_before : ℕ → ℕ → ℕ → Bool} {k : ℕ → ℕ} → Course n row cores H allows q ready goes_before k →
    ((t i j : ℕ) → i < n → j < n →
    let x = rank_of (row i) i (q t i) in
    let y = rank_of (row j) j (q t j) in
    allows x y → others x y) →
    Course n row cores H others q ready goes_before k
held_to C implies =
    record {
      enough = C.enough;
      started = C.started;
      irreflexive = C.irreflexive;
      transitive = C.transitive;
      ordered = λ t i j th li lj f. implies t i j li lj (C.ordered t i j th li lj f);
      given = C.given;
    }

-- Where the fluid of a box is on time, nobody is late.
module _ {n cycle cores H : ℕ} {row : ℕ → Row} {q : ℕ → ℕ → ℕ} {ready : ℕ → ℕ → Bool} {goes_before : ℕ → ℕ → ℕ → Bool} {k : ℕ → ℕ}
    (B : Box n row cycle cores) (C : Course n row cores H ByDeadline q ready goes_before k) where
  on_time_is_not_late : OnTime (setting B C) H → NobodyIsLate n row H q
  on_time_is_not_late o t i th l = not_late_before_deadline (row i) (q t i) t (go (dec_le (rank_of (row i) i (q t i)).d t))
    where
      go : Dec ((rank_of (row i) i (q t i)).d ≤ t) → t < (rank_of (row i) i (q t i)).d
      go (yes d) = absurd (omega (arith, (due_means B i l (q t i) t).0 d, o t i th l))
      go (no d) = omega arith

pub never_late_two_cores : NeverLateTwoCores
never_late_two_cores n row cycle cores two H q ready goes_before k B C =
    on_time_is_not_late B C
    (greedy_is_on_time_on_two n cycle cores H _ _ q (setting B C) two (λ h _. cuts_are_greedy B C h) H (omega arith))

pub never_late_one_core : NeverLateOneCore
never_late_one_core n row cycle = never_late_two_cores n row cycle 1 (omega arith)

pub never_late : NeverLate
never_late n row cycle cores H q ready goes_before k B C =
    let D : Course n row cores H ByDeadline q ready goes_before k = held_to C (λ t i j li lj a. record { deadline = a.bits.deadline }) in
    on_time_is_not_late B D
    (greedy_is_on_time n cycle cores H _ _ q (setting B D) (ext B D) (λ h _. cuts_are_greedy B D h)
    (λ s t st th. (extensions_are_greedy B D C.ordered s t st th, λ i l. extension_is_ext (setting B D) s t i st th l))
    H (omega arith))

-- Up to weight one half D is 0 where the bit is 1, so PD2 asks nothing more of such rows than deadlines and bits.
pub never_late_up_to_half : NeverLateUpToHalf
never_late_up_to_half n row cycle cores up_to_half H q ready goes_before k B C =
    never_late n row cycle cores H q ready goes_before k B
    (held_to C
    (λ t i j li lj a.
    record {
      bits = a;
      group = λ _ _ one. omega (arith, up_to_half_has_none (row j).cost (row j).period (origin_of (row j)) (q t j + 1) (up_to_half j lj) one);
    }))

-- PD2's order, with who is favoured and the lower row number last, is held to PD2.
before_is_pd2 : (x y : Rank) (f g : Bool) → Before (with_favour x f) (with_favour y g) → ByPd2 x y
before_is_pd2 x y f g b = record { bits = record { deadline = deadline b; bit = bit b }; group = group b }
  where
    deadline : Before (with_favour x f) (with_favour y g) → x.d ≤ y.d
    deadline (Before.by_deadline l) = omega arith
    deadline (Before.by_bit d _ _) = omega arith
    deadline (Before.by_group d _ _ _) = omega arith
    deadline (Before.by_favour t _ _) = omega (arith, t.deadline)
    deadline (Before.by_row t _ _) = omega (arith, t.deadline)

    bit : Before (with_favour x f) (with_favour y g) → x.d ≡ y.d → y.b ≡ 1 → x.b ≡ 1
    bit (Before.by_deadline l) same one = omega arith
    bit (Before.by_bit _ b _) same one = b
    bit (Before.by_group _ b _ _) same one = b
    bit (Before.by_favour t _ _) same one = t.bit ∙ one
    bit (Before.by_row t _ _) same one = t.bit ∙ one

    group : Before (with_favour x f) (with_favour y g) → x.d ≡ y.d → x.b ≡ 1 → y.b ≡ 1 → y.D ≤ x.D
    group (Before.by_deadline l) same one both = omega arith
    group (Before.by_bit _ _ c) same one both = omega arith
    group (Before.by_group _ _ _ l) same one both = omega arith
    group (Before.by_favour t _ _) same one both = omega (arith, t.group one)
    group (Before.by_row t _ _) same one both = omega (arith, t.group one)

pub pd2_never_late : Pd2NeverLate
pd2_never_late rows cycle cores H quanta favours k B enough given =
    never_late _ (row_at rows) cycle cores H (λ t. quanta_at (quanta t)) (λ t. ready_in rows (quanta t) t) (λ t. goes_before_by before rows (quanta t) (favours t)) k B
    (record {
      enough = enough;
      started = λ t i th l h. started_is_ready (row_at rows i) (quanta_at (quanta t) i) t (B.can i l).cost h;
      irreflexive = λ t i th. (pd2_is_strict rows (quanta t) (favours t) t _).irreflexive i;
      transitive = λ t i j m th. (pd2_is_strict rows (quanta t) (favours t) t _).transitive i j m;
      ordered = λ t i j th li lj f. before_is_pd2 (rank_of (row_at rows i) i (quanta_at (quanta t) i)) (rank_of (row_at rows j) j (quanta_at (quanta t) j)) (favours t i) (favours t j) ((before_means_rule _ _).0 f);
      given = given;
    })
