-- The laws of PD2's order, whoever is favoured. Assumes nothing.
use Prim.Native.Nat.{◌≤◌, ◌<◌}
use mathlib.Core.Path.{◌≡◌, refl, sym, ◌∙◌}
use mathlib.Core.Bool.{Bool, true, false, not, ◌&&◌, ◌||◌, beq, true≢false, false≢true}
use mathlib.Core.Logic.{◌↔◌, ◌⊎◌, inl, inr}
use native.Mathlib.Decide.{ℕ_discrete, dec_lt}
use native.Mathlib.Omega.{arith}
use borrow.Author.Tests.{lt-ltb, le-ltb, eq-eqb, ne_eqb, ltb-true, eqb-true, eqb-false, not-true}
use lib.Dec.{ltb, eqb}
use Rattle.facts.proofs.Tests.{both, one_of_two}
use Rattle.pd2.specs.Order.{Rank, FullTie, Before, bit_decides, group_decides, tied_behind, favour_decides, row_decides, before}

-- Full ties join,
joined : {x y z : Rank} → FullTie x y → FullTie y z → FullTie x z
joined t u = record { deadline = t.deadline ∙ u.deadline; bit = t.bit ∙ u.bit; group = λ one. t.group one ∙ u.group (sym t.bit ∙ one) }

-- and hold the other way round.
turned : {x y : Rank} → FullTie x y → FullTie y x
turned t = record { deadline = sym t.deadline; bit = sym t.bit; group = λ one. sym (t.group (t.bit ∙ one)) }

-- O1: no row goes before itself.
pub order_is_irreflexive : {x : Rank} → Before x x → ⊥
order_is_irreflexive (Before.by_deadline l) = omega arith
order_is_irreflexive (Before.by_bit d p q) = omega arith
order_is_irreflexive (Before.by_group d p q l) = omega arith
order_is_irreflexive (Before.by_favour t is none) = true≢false (sym is ∙ none)
order_is_irreflexive (Before.by_row t same l) = omega arith

-- O2: what goes before what goes before goes before.
pub order_is_transitive : {x y z : Rank} → Before x y → Before y z → Before x z
order_is_transitive (Before.by_deadline l) (Before.by_deadline m) = Before.by_deadline (omega arith)
order_is_transitive (Before.by_deadline l) (Before.by_bit d p q) = Before.by_deadline (omega arith)
order_is_transitive (Before.by_deadline l) (Before.by_group d p q m) = Before.by_deadline (omega arith)
order_is_transitive (Before.by_deadline l) (Before.by_favour u is none) = Before.by_deadline (omega (arith, u.deadline))
order_is_transitive (Before.by_deadline l) (Before.by_row u same m) = Before.by_deadline (omega (arith, u.deadline))
order_is_transitive (Before.by_bit d p q) (Before.by_deadline m) = Before.by_deadline (omega arith)
order_is_transitive (Before.by_bit d p q) (Before.by_bit d' p' q') = absurd (omega arith)
order_is_transitive (Before.by_bit d p q) (Before.by_group d' p' q' m) = absurd (omega arith)
order_is_transitive (Before.by_bit d p q) (Before.by_favour u is none) = Before.by_bit (d ∙ u.deadline) p (sym u.bit ∙ q)
order_is_transitive (Before.by_bit d p q) (Before.by_row u same m) = Before.by_bit (d ∙ u.deadline) p (sym u.bit ∙ q)
order_is_transitive (Before.by_group d p q l) (Before.by_deadline m) = Before.by_deadline (omega arith)
order_is_transitive (Before.by_group d p q l) (Before.by_bit d' p' q') = Before.by_bit (omega arith) (omega arith) (omega arith)
order_is_transitive (Before.by_group d p q l) (Before.by_group d' p' q' m) = Before.by_group (omega arith) (omega arith) (omega arith) (omega arith)
order_is_transitive (Before.by_group d p q l) (Before.by_favour u is none) = Before.by_group (d ∙ u.deadline) p (sym u.bit ∙ q) (omega (arith, u.group q))
order_is_transitive (Before.by_group d p q l) (Before.by_row u same m) = Before.by_group (d ∙ u.deadline) p (sym u.bit ∙ q) (omega (arith, u.group q))
order_is_transitive (Before.by_favour t is none) (Before.by_deadline m) = Before.by_deadline (omega (arith, t.deadline))
order_is_transitive (Before.by_favour t is none) (Before.by_bit d p q) = Before.by_bit (t.deadline ∙ d) (t.bit ∙ p) q
order_is_transitive (Before.by_favour t is none) (Before.by_group d p q m) = Before.by_group (t.deadline ∙ d) (t.bit ∙ p) q (omega (arith, t.group (t.bit ∙ p)))
order_is_transitive (Before.by_favour t is none) (Before.by_favour u also not) = absurd (true≢false (sym also ∙ none))
order_is_transitive (Before.by_favour t is none) (Before.by_row u same m) = Before.by_favour (joined t u) is (sym same ∙ none)
order_is_transitive (Before.by_row t same l) (Before.by_deadline m) = Before.by_deadline (omega (arith, t.deadline))
order_is_transitive (Before.by_row t same l) (Before.by_bit d p q) = Before.by_bit (t.deadline ∙ d) (t.bit ∙ p) q
order_is_transitive (Before.by_row t same l) (Before.by_group d p q m) = Before.by_group (t.deadline ∙ d) (t.bit ∙ p) q (omega (arith, t.group (t.bit ∙ p)))
order_is_transitive (Before.by_row t same l) (Before.by_favour u is none) = Before.by_favour (joined t u) (same ∙ is) none
order_is_transitive (Before.by_row t same l) (Before.by_row u alike m) = Before.by_row (joined t u) (same ∙ alike) (omega arith)

-- O3: of two rows one goes before the other, if their bits are 0 or 1.
pub order_is_total : (x y : Rank) → x.b ≤ 1 → y.b ≤ 1 → (x.row ≡ y.row → ⊥) → Before x y ⊎ Before y x
order_is_total x y p q n = by_d (ℕ_discrete x.d y.d) (dec_lt x.d y.d)
  where
    by_number : FullTie x y → x.favoured ≡ y.favoured → Dec (x.row < y.row) → Before x y ⊎ Before y x
    by_number t same (yes l) = inl (Before.by_row t same l)
    by_number t same (no l) = inr (Before.by_row (turned t) (sym same) (omega arith))

    by_favour : FullTie x y → (a b : Bool) → x.favoured ≡ a → y.favoured ≡ b → Before x y ⊎ Before y x
    by_favour t true true r s = by_number t (r ∙ sym s) (dec_lt x.row y.row)
    by_favour t true false r s = inl (Before.by_favour t r s)
    by_favour t false true r s = inr (Before.by_favour (turned t) s r)
    by_favour t false false r s = by_number t (r ∙ sym s) (dec_lt x.row y.row)

    by_group_deadline : x.d ≡ y.d → x.b ≡ 1 → y.b ≡ 1 → Dec (x.D ≡ y.D) → Dec (y.D < x.D) → Before x y ⊎ Before y x
    by_group_deadline d b c (yes s) w = by_favour (record { deadline = d; bit = b ∙ sym c; group = λ _. s }) x.favoured y.favoured refl refl
    by_group_deadline d b c (no s) (yes w) = inl (Before.by_group d b c w)
    by_group_deadline d b c (no s) (no w) = inr (Before.by_group (omega arith) c b (omega arith))

    by_b : x.d ≡ y.d → Dec (x.b ≡ 1) → Dec (y.b ≡ 1) → Before x y ⊎ Before y x
    by_b d (yes b) (yes c) = by_group_deadline d b c (ℕ_discrete x.D y.D) (dec_lt y.D x.D)
    by_b d (yes b) (no c) = inl (Before.by_bit d b (omega arith))
    by_b d (no b) (yes c) = inr (Before.by_bit (omega arith) c (omega arith))
    by_b d (no b) (no c) = by_favour (record { deadline = d; bit = omega arith; group = λ one. absurd (b one) }) x.favoured y.favoured refl refl

    by_d : Dec (x.d ≡ y.d) → Dec (x.d < y.d) → Before x y ⊎ Before y x
    by_d (yes s) l = by_b s (ℕ_discrete x.b 1) (ℕ_discrete y.b 1)
    by_d (no s) (yes l) = inl (Before.by_deadline l)
    by_d (no s) (no l) = inr (Before.by_deadline (omega arith))

-- For callers: where two ranks tie fully, the tests of the first three rules fail, and the last two decide.
pub only_last_decide : (x y : Rank) → FullTie x y → before x y ≡ (x.favoured && not y.favoured) || (beq x.favoured y.favoured && ltb x.row y.row)
unfolding before
only_last_decide x y t = go (ℕ_discrete x.b 1)
  where
    not_less : y.d ≤ x.d
    not_less = omega (arith, t.deadline)

    go : Dec (x.b ≡ 1) → before x y ≡ (x.favoured && not y.favoured) || (beq x.favoured y.favoured && ltb x.row y.row)
    go (yes one) =
        let also : y.b ≡ 1 = sym t.bit ∙ one in
        let not_0 : y.b ≡ 0 → ⊥ = λ z. omega arith in
        let not_more : x.D ≤ y.D = omega (arith, t.group one) in
        simp (le-ltb _ _ not_less, eq-eqb _ _ t.deadline, eq-eqb _ _ one, ne_eqb _ _ not_0, eq-eqb _ _ also, le-ltb _ _ not_more, eq-eqb _ _ t.bit, eq-eqb _ _ (t.group one))
    go (no none) = simp (le-ltb _ _ not_less, eq-eqb _ _ t.deadline, ne_eqb _ _ none, eq-eqb _ _ t.bit)

-- The tests say what the rules say.
before_if_rule : (x y : Rank) → Before x y → before x y ≡ true
unfolding before
before_if_rule x y (Before.by_deadline l) = simp (lt-ltb _ _ l)
before_if_rule x y (Before.by_bit d p q) =
    let not_less : y.d ≤ x.d = omega arith in
    simp (le-ltb _ _ not_less, eq-eqb _ _ d, eq-eqb _ _ p, eq-eqb _ _ q)
before_if_rule x y (Before.by_group d p q l) =
    let not_less : y.d ≤ x.d = omega arith in
    let not_0 : y.b ≡ 0 → ⊥ = λ z. omega arith in
    simp (le-ltb _ _ not_less, eq-eqb _ _ d, eq-eqb _ _ p, ne_eqb _ _ not_0, eq-eqb _ _ q, lt-ltb _ _ l)
before_if_rule x y (Before.by_favour t is none) = only_last_decide x y t ∙ rw (is, none) refl
before_if_rule x y (Before.by_row t same l) = only_last_decide x y t ∙ rw (same, lt-ltb _ _ l) (go y.favoured)
  where
    go : (a : Bool) → (a && not a) || (beq a a && true) ≡ true
    go true = refl
    go false = refl

rule_if_before : (x y : Rank) → before x y ≡ true → Before x y
unfolding before
rule_if_before x y h = first (one_of_two (ltb x.d y.d) _ h)
  where
    tie : x.d ≡ y.d → tied_behind x y ≡ true → FullTie x y
    tie d t =
        let bits = both (eqb x.b y.b) (not (eqb x.b 1) || eqb x.D y.D) t in
        record { deadline = d; bit = eqb-true _ _ bits.0; group = λ one. same one (one_of_two (not (eqb x.b 1)) (eqb x.D y.D) bits.1) }
      where
        same : x.b ≡ 1 → (not (eqb x.b 1) ≡ true) ⊎ (eqb x.D y.D ≡ true) → x.D ≡ y.D
        same one (inl n) = absurd (eqb-false x.b 1 (not-true _ n) one)
        same one (inr e) = eqb-true _ _ e

    alike : (a b : Bool) → beq a b ≡ true → a ≡ b
    alike true true e = refl
    alike true false e = absurd (false≢true e)
    alike false true e = absurd (false≢true e)
    alike false false e = refl

    by_number : x.d ≡ y.d → row_decides x y ≡ true → Before x y
    by_number d t =
        let number = both (tied_behind x y && beq x.favoured y.favoured) (ltb x.row y.row) t in
        let ties = both (tied_behind x y) (beq x.favoured y.favoured) number.0 in
        Before.by_row (tie d ties.0) (alike _ _ ties.1) (ltb-true _ _ number.1)

    by_favour : x.d ≡ y.d → favour_decides x y ≡ true → Before x y
    by_favour d t =
        let none = both (tied_behind x y && x.favoured) (not y.favoured) t in
        let ties = both (tied_behind x y) x.favoured none.0 in
        Before.by_favour (tie d ties.0) ties.1 (not-true _ none.1)

    by_group_deadline : x.d ≡ y.d → group_decides x y ≡ true → Before x y
    by_group_deadline d t =
        let group = both (eqb x.b 1 && eqb y.b 1) (ltb y.D x.D) t in
        let bits = both (eqb x.b 1) (eqb y.b 1) group.0 in
        Before.by_group d (eqb-true _ _ bits.0) (eqb-true _ _ bits.1) (ltb-true _ _ group.1)

    by_b : x.d ≡ y.d → bit_decides x y ≡ true → Before x y
    by_b d t =
        let bits = both (eqb x.b 1) (eqb y.b 0) t in
        Before.by_bit d (eqb-true _ _ bits.0) (eqb-true _ _ bits.1)

    fourth : x.d ≡ y.d → (bit_decides x y ≡ true) ⊎ (group_decides x y ≡ true) → Before x y
    fourth d (inl t) = by_b d t
    fourth d (inr t) = by_group_deadline d t

    third : x.d ≡ y.d → (bit_decides x y || group_decides x y ≡ true) ⊎ (favour_decides x y ≡ true) → Before x y
    third d (inl t) = fourth d (one_of_two (bit_decides x y) (group_decides x y) t)
    third d (inr t) = by_favour d t

    second : x.d ≡ y.d → (bit_decides x y || group_decides x y || favour_decides x y ≡ true) ⊎ (row_decides x y ≡ true) → Before x y
    second d (inl t) = third d (one_of_two (bit_decides x y || group_decides x y) (favour_decides x y) t)
    second d (inr t) = by_number d t

    first : (ltb x.d y.d ≡ true) ⊎ (eqb x.d y.d && (bit_decides x y || group_decides x y || favour_decides x y || row_decides x y) ≡ true) → Before x y
    first (inl t) = Before.by_deadline (ltb-true _ _ t)
    first (inr t) =
        let rest = both (eqb x.d y.d) (bit_decides x y || group_decides x y || favour_decides x y || row_decides x y) t in
        second (eqb-true _ _ rest.0) (one_of_two (bit_decides x y || group_decides x y || favour_decides x y) (row_decides x y) rest.1)

-- For callers: the order's meaning. The test holds exactly if one of the five rules puts x before y.
pub before_means_rule : (x y : Rank) → (before x y ≡ true) ↔ Before x y
before_means_rule x y = (rule_if_before x y, before_if_rule x y)

-- The smaller deadline goes first,
pub sooner_goes_first : (x y : Rank) → x.d < y.d → before x y ≡ true
unfolding before
sooner_goes_first x y l = rw (lt-ltb _ _ l) refl

-- the larger does not,
pub later_does_not : (x y : Rank) → y.d < x.d → before x y ≡ false
unfolding before
later_does_not x y l =
    let other : x.d ≡ y.d → ⊥ = λ e. omega arith in
    rw (le-ltb x.d y.d (omega arith), ne_eqb _ _ other) refl

-- and at the same deadline the other rules decide.
pub other_rules_decide : (x y : Rank) → x.d ≡ y.d → before x y ≡ bit_decides x y || group_decides x y || favour_decides x y || row_decides x y
unfolding before
other_rules_decide x y e = rw (le-ltb x.d y.d (omega arith), eq-eqb _ _ e) refl
