-- The numbers in the commands of a valid program are those of texts.
use Rattle.std.proofs.Common.{◌≡◌, ℕ, ◌-◌, ◌^◌, ℤ, pos, negsuc, neg_ℤ, List, [], ◌∷◌, map, length, true, false, ◌||◌, Some, slice_get, refl, sym, ap, ◌∙◌, arith}
use Rattle.std.specs.Prelude.{int_lt, int_le, nat_le}
use Rattle.std.specs.List.{list_any, list_all, filter}
use Rattle.std.specs.Option.{option_map}
use Rattle.std.proofs.lemmas.Bool.{and_from, and_parts}
use Rattle.std.proofs.lemmas.Int.{ints}
use Rattle.std.proofs.lemmas.Option.{slice_get-map}
use Rattle.gil_values.specs.Pure.{PureValue, integer, boolean, text, symbol, kind, procedure, list}
use Rattle.gil_syntax.specs.declared.validity.InvalidKind.{InvalidKind}
use Rattle.gil_syntax.specs.Programs.{find_proc, find_spec}
use Rattle.gil_syntax.specs.Pure.{PureExpr, PureNumberedCommand, PureProc, PureParts}
use Rattle.gil_syntax.specs.Subexpressions.{literals_of, exprs_of}
use Rattle.gil_syntax.specs.Valid.{a_proc, is_wide, piece_of_command, logicals_of_spec, is_large, has_wide_literal, most_items, same_list, IsValid}
use Rattle.sym_engine.proofs.Placing.{without_fault, none_of, neither, command_found}
use Rattle.sym_evaluation.specs.Plainly.{text_bound, is_text_number, has_text_numbers}
use Rattle.sym_model.proofs.ListLaws.{not_none}
use Rattle.sym_paths.specs.Meaning.{command_of_frames}
use Rattle.sym_paths.specs.Pure.{PureFrame}

above_low : (n : ℤ) → int_lt n (negsuc (2 ^ 63 - 1)) ≡ false → int_le (neg_ℤ (pos text_bound)) n ≡ true
above_low n fine = grind (arith, ints)

below_high : (n : ℤ) → int_le (pos (2 ^ 63)) n ≡ false → int_le n (pos text_bound) ≡ true
below_high n fine = grind (arith, ints)

text_number : (v : PureValue) → is_wide v ≡ false → is_text_number v ≡ true
text_number (integer n) fine =
    let (low, high) = neither (int_lt n (negsuc (2 ^ 63 - 1))) (int_le (pos (2 ^ 63)) n) fine in
    and_from (int_le (neg_ℤ (pos text_bound)) n) (int_le n (pos text_bound)) (above_low n low) (below_high n high)
text_number (boolean b) fine = refl
text_number (text cs) fine = refl
text_number (symbol n) fine = refl
text_number (kind k) fine = refl
text_number (procedure f) fine = refl
text_number (list vs) fine = refl

text_numbers : (vs : List PureValue) → list_any is_wide vs ≡ false → list_all is_text_number vs ≡ true
text_numbers [] none = refl
text_numbers (v ∷ vs) none =
    let (first, rest) = neither (is_wide v) (list_any is_wide vs) none in and_from (is_text_number v) (list_all is_text_number vs) (text_number v first) (text_numbers vs rest)

each_text : (es : List PureExpr) → list_any (λ e. list_any is_wide (literals_of e)) es ≡ false → list_all has_text_numbers es ≡ true
each_text [] none = refl
each_text (e ∷ es) none =
    let (first, rest) = neither (list_any is_wide (literals_of e)) (list_any (λ d. list_any is_wide (literals_of d)) es) none in
    and_from (has_text_numbers e) (list_all has_text_numbers es) (text_numbers (literals_of e) first) (each_text es rest)

texts_at : (p : PureParts) (f : List ℕ) (q : PureProc) (i : ℕ) (c : PureNumberedCommand) → IsValid p → find_proc p.procs f ≡ Some q → slice_get q.body i ≡ Some c → list_all has_text_numbers (exprs_of c.command) ≡ true
texts_at p f q i c valid found at =
    let (before, none) = without_fault p f q valid found InvalidKind.TooMany in
    let narrow : has_wide_literal p (a_proc q) ≡ false = (neither (nat_le most_items (length (filter (same_list (a_proc q)) before)) || is_large (a_proc q)) (has_wide_literal p (a_proc q)) none).1 in
    each_text (exprs_of c.command)
    (none_of (λ d. list_any (λ e. list_any is_wide (literals_of e)) d.exprs) (map (λ d. piece_of_command (logicals_of_spec (find_spec p.specs q.name)) d.command) q.body) i (piece_of_command (logicals_of_spec (find_spec p.specs q.name)) c.command) narrow
    (slice_get-map (λ d. piece_of_command (logicals_of_spec (find_spec p.specs q.name)) d.command) q.body i ∙ ap (option_map (λ d. piece_of_command (logicals_of_spec (find_spec p.specs q.name)) d.command)) at))

pub command_texts : (p : PureParts) (fs : List PureFrame) (c : PureNumberedCommand) → IsValid p → command_of_frames p fs ≡ Some c → list_all has_text_numbers (exprs_of c.command) ≡ true
command_texts p [] c valid at = not_none at
command_texts p (f ∷ fs) c valid at =
    let (q, (found, is)) = command_found (find_proc p.procs f.procedure) f.next c at in texts_at p f.procedure q f.next c valid found is

-- the first of the expressions of a command
pub first_text : (es : List PureExpr) (e : PureExpr) (rest : List PureExpr) → es ≡ e ∷ rest → list_all has_text_numbers es ≡ true → has_text_numbers e ≡ true
first_text es e rest is texts = (and_parts (has_text_numbers e) (list_all has_text_numbers rest) (ap (list_all has_text_numbers) (sym is) ∙ texts)).0

pub later_texts : (es : List PureExpr) (e : PureExpr) (rest : List PureExpr) → es ≡ e ∷ rest → list_all has_text_numbers es ≡ true → list_all has_text_numbers rest ≡ true
later_texts es e rest is texts = (and_parts (has_text_numbers e) (list_all has_text_numbers rest) (ap (list_all has_text_numbers) (sym is) ∙ texts)).1
