-- How a promise is seen to determine its result. Assumes nothing.
use mathlib.Core.Path.{◌≡◌, sym, ap, ◌∙◌}
use Rattle.facts.specs.Determined.{Determined, TellsApart}

-- A promise that gives the result's meaning determines the result, if the meaning tells all results apart.
pub by_meaning : {R M : Type 0} {meaning : R → M} → TellsApart meaning → {right : M} → Determined {R = R} (λ r. meaning r ≡ right)
by_meaning apart a b p q = apart a b (p ∙ sym q)

-- A meaning from which the result is found again tells all results apart.
pub by_way_back : {R M : Type 0} {meaning : R → M} (found : M → R) → ((r : R) → found (meaning r) ≡ r) → TellsApart meaning
by_way_back found back a b e = sym (back a) ∙ (ap found e ∙ back b)

-- A promise that gives the result itself determines it.
pub by_value : {R : Type 0} {right : R} → Determined {R = R} (λ r. r ≡ right)
by_value a b p q = p ∙ sym q

-- One that gives two things, such as an answer and what is left in a buffer, determines both.
pub both_by_value : {R S : Type 0} {right : R} {left : S} → Determined {R = R × S} (λ r. (r.0 ≡ right) × (r.1 ≡ left))
both_by_value a b p q z = ((p.0 ∙ sym q.0) z, (p.1 ∙ sym q.1) z)
