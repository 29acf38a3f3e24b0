-- Between functions: what those that answer the question promise one another. No part of what 02 says.
use Rattle.std.specs.Prelude.{ℕ, List, cond, Option, Some, None}
use Rattle.trace.specs.Records.{times_named_from}
use Rattle.summary.specs.Question.{Reply, some_outside, no_entry, counted_on, reply_by}

-- What a walk over m records from a place on answers: how many of them name a row, if all of them are inside the trace.
unfoldable pub walk_of : List ℕ → ℕ → ℕ → ℕ → Option ℕ
walk_of trace from row m = cond (some_outside trace from m) None (Some (times_named_from trace from row m))

-- What the question answers once neither 36 nor 38 is.
unfoldable pub on_reply : List ℕ → List ℕ → ℕ → ℕ → Reply
on_reply trace summary row t = reply_by (cond (no_entry trace summary row t) 39 0) (counted_on trace summary row t)
