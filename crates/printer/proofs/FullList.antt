-- A k list in full says all: its text does not ask what slots past it use. Assumes nothing.
use Prim.Native.Nat.{ℕ, zero, suc, ◌+◌, ◌-◌, ◌≤◌, ◌<◌}
use mathlib.Core.Path.{◌≡◌, refl, sym, ap, ◌∙◌, subst}
use mathlib.Core.List.{List, [], ◌++◌, append_assoc}
use mathlib.Core.Bool.{Bool, true, false}
use native.Mathlib.Decide.{dec_lt}
use native.Mathlib.Omega.{arith}
use borrow.Author.Tests.{le-ltb}
use lib.ListN.{length, get_or, take, drop, replicate, length-append, length-replicate, get_or-replicate, get_or-append}
use lib.Seq.{take-append_seam, drop-append_seam, get_or-append-add}
use Rattle.fields.specs.Fields.{byte, half, bytes_of}
use Rattle.fields.proofs.Numbers.{bytes_long, written_is_read, fields_are_numbers}
use Rattle.table.specs.Bytes.{reading, table_in}
use Rattle.table.proofs.Taken.{number_read, table_read}
use Rattle.dispatcher.specs.declared.State.{State}
use Rattle.dispatcher.specs.State.{fresh_of}
use Rattle.printer.specs.Limits.{input_limit, run_limit}
use Rattle.printer.specs.Input.{table_bytes, slots_asked, list_length, list_place, listed_or, held_back, unfit}
use Rattle.printer.specs.Lines.{header}
use Rattle.printer.specs.Text.{asked_of, slot_text, slots_text, text_with}
use Rattle.printer.specs.FullList.{FullListDecides, FullListPrintsAsBefore, input_of, in_full, WrittenInFullPrintsAsBefore}
use Rattle.printer.proofs.Input.{free_listed, free_past, listed_unfit}
use Rattle.printer.proofs.Buffer.{text_of_unfit, text_of_refused, text_of_taken}

-- Slots that have the same ks have the same text.
pub same_slots : (a b : ℕ → ℕ) (slot : ℕ) (s : State) (left : ℕ) → ((t : ℕ) → slot ≤ t → t < slot + left → a t ≡ b t) → slots_text a slot s left ≡ slots_text b slot s left
unfolding slots_text
same_slots a b slot s zero same = refl
same_slots a b slot s (suc left) same =
    ap (λ k. slot_text (asked_of s k).said.number slot k s (asked_of s k).said (slots_text a (slot + 1) (asked_of s k).state left)) (same slot (omega arith) (omega arith))
    ∙ ap (slot_text (asked_of s (b slot)).said.number slot (b slot) s (asked_of s (b slot)).said)
    (same_slots a b (slot + 1) (asked_of s (b slot)).state left (λ t l m. same t (omega arith) (omega arith)))

-- Two inputs of one table and as many slots print the same, if both are fit or neither, and if each slot has the same k wherever the table is taken.
module _ (past past' : ℕ → ℕ) (s s' : List ℕ) (fit : unfit s ≡ unfit s') (table : table_bytes s ≡ table_bytes s') (slots : slots_asked s ≡ slots_asked s') where
  abbrev cores : ℕ
  cores = (reading (table_bytes s)).table.cores

  same_text : ((reading (table_bytes s)).number ≡ 0 → (t : ℕ) → t < slots_asked s → listed_or s (past cores) t ≡ listed_or s' (past' cores) t) → text_with past s ≡ text_with past' s'
  same_text same = go (unfit s) refl (reading (table_bytes s)).number refl
    where
      go : (b : Bool) → b ≡ unfit s → (number : ℕ) → number ≡ (reading (table_bytes s)).number → text_with past s ≡ text_with past' s'
      go true e number read = sym (text_of_unfit past s (sym e)) ∙ text_of_unfit past' s' (sym fit ∙ sym e)
      go false e zero read =
          sym (text_of_taken past s (sym e) (sym read))
          ∙ (ap (λ l. header ++ l)
          (same_slots (listed_or s (past cores)) (listed_or s' (past' cores)) 0 (fresh_of (reading (table_bytes s)).table) (slots_asked s) (λ t l m. same (sym read) t (omega (arith, m)))
          ∙ (ap (λ n. slots_text (listed_or s' (past' cores)) 0 (fresh_of (reading (table_bytes s)).table) n) slots
          ∙ ap (λ b. slots_text (listed_or s' (past' (reading b).table.cores)) 0 (fresh_of (reading b).table) (slots_asked s')) table))
          ∙ text_of_taken past' s' (sym fit ∙ sym e) (sym (ap (λ b. (reading b).number) table) ∙ sym read))
      go false e (suc number) read =
          sym (text_of_refused past s (sym e) read (λ z. omega (arith, z)))
          ∙ text_of_refused past' s' (sym fit ∙ sym e) (read ∙ ap (λ b. (reading b).number) table) (λ z. omega (arith, z))

-- Where the list is in full every slot has its own k.
pub full_list_decides : FullListDecides
full_list_decides s full past past' =
    same_text past past' s s refl refl refl
    (λ taken t l. let inside : t < list_length s = omega (arith, full) in sym (free_listed s _ inside) ∙ free_listed s _ inside)

pub full_list_prints_as_before : FullListPrintsAsBefore
full_list_prints_as_before s full = full_list_decides s full held_back (λ cores. cores)

-- What is read of an input of its parts.
record PartsAre (table : List ℕ) (slots : ℕ) (list s : List ℕ) : Type 0 where
  bytes : table_bytes s ≡ table
  asked : slots_asked s ≡ slots
  listed : list_length s ≡ length list
  each : (t : ℕ) → byte s (list_place s + t) ≡ get_or list t 0
  long : length s ≡ list_place s + length list
  place : list_place s ≡ length table + 6

-- a number of two bytes, behind a front
half_is_read : (front : List ℕ) (n : ℕ) (rest : List ℕ) → n < 65_536 → (s : List ℕ) → front ++ (bytes_of 2 n ++ rest) ≡ s → half s (length front) ≡ n
half_is_read front n rest h s e =
    subst (λ s. half s (length front) ≡ n) e
    (fields_are_numbers.two (front ++ (bytes_of 2 n ++ rest)) (length front) ∙ written_is_read 2 n h front rest)

module _ (table : List ℕ) (slots : ℕ) (list : List ℕ) (small : length table < 65_536) (few : slots < 65_536) (short : length list < 65_536) where
  abbrev whole : List ℕ
  whole = input_of table slots list

  -- what stands in front of the slots, of the list's length and of the list
  abbrev front : List ℕ
  front = bytes_of 2 (length table) ++ table

  abbrev front_2 : List ℕ
  front_2 = front ++ bytes_of 2 slots

  abbrev front_3 : List ℕ
  front_3 = front_2 ++ bytes_of 2 (length list)

  long_1 : length front ≡ 2 + length table
  long_1 = length-append (bytes_of 2 (length table)) table ∙ ap (λ n. n + length table) (bytes_long 2 (length table))

  long_2 : length front_2 ≡ 4 + length table
  long_2 = omega (arith, length-append front (bytes_of 2 slots), long_1, bytes_long 2 slots)

  long_3 : length front_3 ≡ 6 + length table
  long_3 = omega (arith, length-append front_2 (bytes_of 2 (length list)), long_2, bytes_long 2 (length list))

  join_1 : front ++ (bytes_of 2 slots ++ (bytes_of 2 (length list) ++ list)) ≡ whole
  join_1 = append_assoc (bytes_of 2 (length table)) table (bytes_of 2 slots ++ (bytes_of 2 (length list) ++ list))

  join_2 : front_2 ++ (bytes_of 2 (length list) ++ list) ≡ whole
  join_2 = append_assoc front (bytes_of 2 slots) (bytes_of 2 (length list) ++ list) ∙ join_1

  join_3 : front_3 ++ list ≡ whole
  join_3 = append_assoc front_2 (bytes_of 2 (length list)) list ∙ join_2

  parts_are_read : PartsAre table slots list whole
  parts_are_read =
      let size : half whole 0 ≡ length table = half_is_read [] (length table) _ small whole refl in
      let behind = ap (λ n. drop n whole) (sym (bytes_long 2 (length table))) ∙ drop-append_seam (bytes_of 2 (length table)) _ in
      let asked = half_is_read front slots _ few whole join_1 in
      let listed = half_is_read front_2 (length list) _ short whole join_2 in
      let each : (t : ℕ) → byte whole (length front_3 + t) ≡ get_or list t 0 = λ t. ap (λ s. byte s (length front_3 + t)) (sym join_3) ∙ get_or-append-add front_3 list t 0 in
      record {
        bytes = ap (λ n. take n (drop 2 whole)) size ∙ (ap (take (length table)) behind ∙ take-append_seam table _);
        asked = ap (half whole) {x = 2 + half whole 0} {y = length front} (omega (arith, size, long_1)) ∙ asked;
        listed = ap (half whole) {x = 2 + half whole 0 + 2} {y = length front_2} (omega (arith, size, long_2)) ∙ listed;
        each = λ t. ap (byte whole) {x = 2 + half whole 0 + 4 + t} {y = length front_3 + t} (omega (arith, size, long_3)) ∙ each t;
        long = omega (arith, ap length join_3, length-append front_3 list, long_3, size);
        place = omega (arith, size);
      }

-- Parts within the limits make a fit input.
parts_fit : (table : List ℕ) (slots : ℕ) (list s : List ℕ) → PartsAre table slots list s → slots ≤ run_limit → length list ≤ slots → length s ≤ input_limit → unfit s ≡ false
parts_fit table slots list s parts most few limit =
    let long : length s ≡ list_place s + list_length s = omega (arith, parts.long, parts.listed) in
    sym (listed_unfit s long limit (omega (arith, parts.asked))) ∙ le-ltb (slots_asked s) (list_length s) (omega (arith, parts.asked, parts.listed))

-- A list written in full has all cores where it left a slot out.
module _ (cores slots : ℕ) (list : List ℕ) (few : length list ≤ slots) where
  full_length : length (in_full cores slots list) ≡ slots
  full_length = omega (arith, length-append list (replicate (slots - length list) cores), length-replicate (slots - length list) cores)

  added : (t : ℕ) → length list ≤ t → t < slots → get_or (in_full cores slots list) t 0 ≡ cores
  added t l m =
      ap (λ i. get_or (in_full cores slots list) i 0) {x = t} {y = length list + (t - length list)} (omega arith)
      ∙ (get_or-append-add list (replicate (slots - length list) cores) (t - length list) 0 ∙ get_or-replicate (slots - length list) (t - length list) cores 0 (omega arith))

module _ (table : List ℕ) (slots : ℕ) (list : List ℕ) (most : slots ≤ run_limit) (few : length list ≤ slots) where
  abbrev M : ℕ
  M = (table_in table).cores

  abbrev full : List ℕ
  full = input_of table slots (in_full M slots list)

  abbrev short : List ℕ
  short = input_of table slots list

  module _ (limit : length full ≤ input_limit) where
    small : length table < 65_536
    small =
        let rest = bytes_of 2 slots ++ (bytes_of 2 (length (in_full M slots list)) ++ in_full M slots list) in
        omega (arith, length-append (bytes_of 2 (length table)) (table ++ rest), bytes_long 2 (length table), length-append table rest, limit)

    now : PartsAre table slots (in_full M slots list) full
    now = parts_are_read table slots (in_full M slots list) small (omega (arith, most)) (omega (arith, full_length M slots list few, most))

    was : PartsAre table slots list short
    was = parts_are_read table slots list small (omega (arith, most)) (omega (arith, few, most))

    both_fit : unfit full ≡ unfit short
    both_fit =
        let ends = full_length M slots list few in
        parts_fit table slots (in_full M slots list) full now most (omega (arith, ends)) limit
        ∙ sym (parts_fit table slots list short was most few (omega (arith, now.long, now.place, was.long, was.place, ends, few, limit)))

    -- Each slot has the k that it had.
    same_k : (reading (table_bytes full)).number ≡ 0 → (t : ℕ) → t < slots_asked full →
        listed_or full (held_back (reading (table_bytes full)).table.cores) t ≡ listed_or short (reading (table_bytes full)).table.cores t
    same_k taken t l = sym (free_listed full _ (omega (arith, now.listed, now.asked, full_length M slots list few))) ∙ (now.each t ∙ go (dec_lt t (length list)))
      where
        cores_are : (reading (table_bytes full)).table.cores ≡ M
        cores_are = ap (λ r. r.cores) (table_read (table_bytes full) (sym (number_read (table_bytes full)) ∙ taken) ∙ ap table_in now.bytes)

        go : Dec (t < length list) → get_or (in_full M slots list) t 0 ≡ listed_or short (reading (table_bytes full)).table.cores t
        go (yes m) = get_or-append list _ 0 t m ∙ (sym (was.each t) ∙ free_listed short _ (omega (arith, was.listed)))
        go (no m) = added M slots list few t (omega arith) (omega (arith, now.asked)) ∙ (sym cores_are ∙ free_past short _ (omega (arith, was.listed)))

pub written_in_full_prints_as_before : WrittenInFullPrintsAsBefore
written_in_full_prints_as_before table slots list most few limit =
    let listed_in_full = now table slots list most few limit in
    let as_it_was = was table slots list most few limit in
    same_text held_back (λ cores. cores) (full table slots list most few) (short table slots list most few) (both_fit table slots list most few limit) (listed_in_full.bytes ∙ sym as_it_was.bytes) (listed_in_full.asked ∙ sym as_it_was.asked) (same_k table slots list most few limit)
