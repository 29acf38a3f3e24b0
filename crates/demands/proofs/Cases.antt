-- What each case of an answer says is so by definition. Assumes nothing.
use mathlib.Core.Path.{refl}
use Rattle.demands.specs.Cases.{WindowCases, TableAnswerCases, StoredCases, SlotCases, WhyCases, TableCases, CheckCases, OwnCases, Cases}

window_cases : WindowCases
window_cases = record { window = λ r d D b. refl; refused = refl }

table_answer_cases : TableAnswerCases
table_answer_cases =
    record {
      taken = λ table. refl;
      refused = λ f. refl;
      no_fault = refl;
      fault_is = λ f. refl;
      written = λ many. refl;
      faulty = λ f. refl;
      no_room = refl;
    }

stored_cases : StoredCases
stored_cases = record { written = refl; no_room = λ reason. refl; is_cut = refl }

slot_cases : SlotCases
slot_cases =
    record {
      done = refl;
      late = λ row time. refl;
      broken = refl;
      stopped = refl;
      at_limit = refl;
      no_such_core = refl;
      no_room = refl;
      not_refused = refl;
      refused = λ refusal. refl;
    }

why_cases : WhyCases
why_cases =
    record {
      picked = refl;
      not_ready = λ until. refl;
      no_core_free = refl;
      passed_over = λ by r. refl;
      deadline = refl;
      bit = refl;
      group_deadline = refl;
      row_number = refl;
      ran_before_is = refl;
      broken = refl;
      stopped = refl;
      at_limit = refl;
      too_many_cores = refl;
      no_such_row = refl;
    }

table_cases : TableCases
table_cases =
    record {
      ends = refl;
      format = refl;
      cycle = refl;
      cores = refl;
      boards = refl;
      row_count = refl;
      tanks = refl;
      cost = refl;
      weight = refl;
      period = refl;
      kind = refl;
      after = refl;
      sum = refl;
    }

check_cases : CheckCases
check_cases =
    record {
      passed = refl;
      table = table_cases;
      refused = λ f. refl;
      cut = refl;
      too_many_cores = refl;
      too_many_rows = refl;
      bad_row = refl;
      early = λ row slot. refl;
      late = λ row time. refl;
      extra = refl;
      too_long = refl;
    }

own_cases : OwnCases
own_cases =
    record {
      yes = refl;
      no = refl;
      unanswered = λ holds. refl;
      yes_is = refl;
      no_is = refl;
      unanswered_is = refl;
      text = λ length. refl;
      too_short = λ reason. refl;
    }

pub cases : Cases
cases = record {
  windows = window_cases;
  tables = table_answer_cases;
  stored = stored_cases;
  slots = slot_cases;
  why = why_cases;
  checks = check_cases;
  own = own_cases;
}
