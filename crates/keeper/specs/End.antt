-- The end of a trace, kept from slot to slot, so that adding a slot need not walk the trace again: how many slots it has, where its records end, and how many of
-- them name each row.
use Rattle.std.specs.Prelude.{ℕ, ◌≡◌, List, Bool, true, false, cond, replicate, Option, Some, None}
use Rattle.table.specs.Limits.{row_limit}
use Rattle.trace.specs.Records.{slots_in, place_in}
use Rattle.summary.specs.Summary.{counts_at}
use Rattle.keeper.specs.declared.End.{End}
use Rattle.keeper.specs.Adding.{is_cut}

-- what one walk over the records finds
abbrev pub end_in : List ℕ → End
end_in trace = record { slots = slots_in trace; place = place_in trace (slots_in trace); quanta = counts_at trace (slots_in trace) }

-- nothing: "each part that no rule names is 0 or empty" (01)
abbrev pub no_end : End
no_end = record { slots = 0; place = 0; quanta = replicate row_limit 0 }

-- What is said of a trace: whether it is cut, and its end,
pub record Ended : Type 0 where
  pub cut : Bool
  pub end : End

-- which is how an `Option<End>` is read: a trace that is cut has none.
abbrev pub ended_of : Option End → Ended
ended_of (Some e) = record { cut = false; end = e }
ended_of None = record { cut = true; end = no_end }

-- a trace that is cut has no end
unfoldable pub ended_in : List ℕ → Ended
ended_in trace = cond (is_cut trace) (record { cut = true; end = no_end }) (record { cut = false; end = end_in trace })

-- It is the end of this trace.
pub record EndIs (trace : List ℕ) (e : End) : Type 0 where
  pub whole : is_cut trace ≡ false
  pub same : e ≡ end_in trace
