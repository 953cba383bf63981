-- Data that their compact text keeps are read again.
use Rattle.std.proofs.Common.{◌≡◌, ◌↔◌, ℕ, zero, suc, ◌≤◌, List, [], ◌∷◌, ◌++◌, Bool, true, false, IsUtf8, Option, Some, None, subst, option_map, option_and_then, refl, sym, ap, ◌∙◌, arith, append-nil}
use Rattle.std.proofs.lemmas.Str.{IsUtf8-append, IsUtf8-nil}
use Rattle.std.proofs.Math.Nat.{max-le}
use Rattle.std.proofs.DigitsParse.{digits-IsUtf8}
use Rattle.json.specs.Lex.{tokens}
use Rattle.json.specs.Json as json
use Rattle.json.specs.Token.{Token}
use Rattle.json.specs.Tree as tree
use Rattle.json.proofs.Printed.Decimals.{IsNumber-decimal}
use Rattle.json.proofs.Printed.Tokens.{tokens-print}
use Rattle.json.proofs.Printed.Trees.{value-json_tokens, ArePrintable-json_tokens}
use Rattle.json.proofs.Printed.Utf8.{IsUtf8-quoted, IsUtf8-boolean}
use Rattle.serde_json.specs.Data.{Data, null, boolean, number, unsigned, negative, float, string, array, object, Items, no_items, item, Members, no_members, member, put}
use Rattle.serde_json.specs.Read.{of_json, of_items, of_members, read, max_depth}
use Rattle.serde_json.specs.Written.{outline, items_outline, members_outline, compact_text, items_text, members_text, comma_if}
use Rattle.serde_json.proofs.Numbers.{number_of-decimal}
use Rattle.serde_json.proofs.Texts.{print-outline}
use Rattle.value_text.specs.declared.faults.ReadFault.{ReadFault}
use Rattle.value_text.specs.declared.faults.ReadFault.TheVariants as faults
use Rattle.value_text.specs.Reading.{Fails}
use Rattle.json_parts.specs.Kept.{with_last, Ascend, IsKept, AreKept, MembersAreKept}
use Rattle.json_parts.specs.Laws.{KeptDataAgain}
use Rattle.json_parts.proofs.Ascii.{ascii_utf8}

-- ---- members, one after another

abbrev joined : Members → Members → Members
joined no_members ms = ms
joined (member k d found) ms = member k d (joined found ms)

none_behind : (found : Members) → joined found no_members ≡ found
none_behind no_members = refl
none_behind (member k d found) = ap (member k d) (none_behind found)

one_behind : (found : Members) (k : List ℕ) (d : Data) (ms : Members) → joined (with_last k d found) ms ≡ joined found (member k d ms)
one_behind no_members k d ms = refl
one_behind (member l e found) k d ms = ap (member l e) (one_behind found k d ms)

-- ---- the grammar's value is the data

mutual
  data_again : (d : Data) (n : ℕ) → IsKept d n → of_json (outline d) ≡ Some d
  data_again null n kept = refl
  data_again (boolean b) n kept = refl
  data_again (number (unsigned m)) n kept = ap (option_map number) (number_of-decimal m kept)
  data_again (number (negative z)) n kept = absurd kept
  data_again (number (float x)) n kept = absurd kept
  data_again (string s) n kept = refl
  data_again (array ds) zero kept = absurd kept
  data_again (array ds) (suc n) kept = ap (option_map array) (items_again ds n kept)
  data_again (object ms) zero kept = absurd kept
  data_again (object ms) (suc n) kept = ap (option_map object) (members_again ms no_members n kept.0 kept.1)

  items_again : (ds : Items) (n : ℕ) → AreKept ds n → of_items (items_outline ds) ≡ Some ds
  items_again no_items n kept = refl
  items_again (item d ds) n kept = rw (data_again d n kept.0, items_again ds n kept.1) refl

  members_again : (ms found : Members) (n : ℕ) → Ascend ms found → MembersAreKept ms n → of_members (members_outline ms) found ≡ Some (joined found ms)
  members_again no_members found n up kept = ap Some (sym (none_behind found))
  members_again (member k d ms) found n up kept =
      ap (option_and_then (λ e. of_members (members_outline ms) (put k e found))) (data_again d n kept.1)
      ∙ ap (of_members (members_outline ms)) up.0
      ∙ members_again ms (with_last k d found) n up.1 kept.2
      ∙ ap Some (one_behind found k d ms)

-- ---- numbers and nesting

mutual
  numbers : (d : Data) (n : ℕ) → IsKept d n → tree.HasNumbers (outline d)
  numbers null n kept = tt
  numbers (boolean b) n kept = tt
  numbers (number (unsigned m)) n kept = IsNumber-decimal m kept
  numbers (number (negative z)) n kept = absurd kept
  numbers (number (float x)) n kept = absurd kept
  numbers (string s) n kept = tt
  numbers (array ds) zero kept = absurd kept
  numbers (array ds) (suc n) kept = items_numbers ds n kept
  numbers (object ms) zero kept = absurd kept
  numbers (object ms) (suc n) kept = members_numbers ms n kept.1

  items_numbers : (ds : Items) (n : ℕ) → AreKept ds n → tree.ItemsHaveNumbers (items_outline ds)
  items_numbers no_items n kept = tt
  items_numbers (item d ds) n kept = (numbers d n kept.0, items_numbers ds n kept.1)

  members_numbers : (ms : Members) (n : ℕ) → MembersAreKept ms n → tree.MembersHaveNumbers (members_outline ms)
  members_numbers no_members n kept = tt
  members_numbers (member k d ms) n kept = (numbers d n kept.1, members_numbers ms n kept.2)

mutual
  shallow : (d : Data) (n : ℕ) → IsKept d n → tree.depth (outline d) ≤ n
  shallow null n kept = omega arith
  shallow (boolean b) n kept = omega arith
  shallow (number (unsigned m)) n kept = omega arith
  shallow (number (negative z)) n kept = absurd kept
  shallow (number (float x)) n kept = absurd kept
  shallow (string s) n kept = omega arith
  shallow (array ds) zero kept = absurd kept
  shallow (array ds) (suc n) kept = omega (arith, items_shallow ds n kept)
  shallow (object ms) zero kept = absurd kept
  shallow (object ms) (suc n) kept = omega (arith, members_shallow ms n kept.1)

  items_shallow : (ds : Items) (n : ℕ) → AreKept ds n → tree.items_depth (items_outline ds) ≤ n
  items_shallow no_items n kept = omega arith
  items_shallow (item d ds) n kept = max-le (shallow d n kept.0) (items_shallow ds n kept.1)

  members_shallow : (ms : Members) (n : ℕ) → MembersAreKept ms n → tree.members_depth (members_outline ms) ≤ n
  members_shallow no_members n kept = omega arith
  members_shallow (member k d ms) n kept = max-le (shallow d n kept.1) (members_shallow ms n kept.2)

-- ---- the text is UTF-8

one_byte : (x : ℕ) (xs : List ℕ) → IsUtf8 (x ∷ []) → IsUtf8 xs → IsUtf8 (x ∷ xs)
one_byte x xs first rest = IsUtf8-append (x ∷ []) xs first rest

comma_utf8 : (later : Bool) → IsUtf8 (comma_if later)
comma_utf8 true = ascii_utf8 (44 ∷ []) refl
comma_utf8 false = IsUtf8-nil

mutual
  data_utf8 : (d : Data) (n : ℕ) → IsKept d n → IsUtf8 (compact_text d)
  data_utf8 null n kept = ascii_utf8 _ refl
  data_utf8 (boolean b) n kept = IsUtf8-boolean b
  data_utf8 (number (unsigned m)) n kept = digits-IsUtf8 10 false m (omega arith) (omega arith)
  data_utf8 (number (negative z)) n kept = absurd kept
  data_utf8 (number (float x)) n kept = absurd kept
  data_utf8 (string s) n kept = IsUtf8-quoted s (ascii_utf8 s kept)
  data_utf8 (array ds) zero kept = absurd kept
  data_utf8 (array ds) (suc n) kept = one_byte 91 _ (ascii_utf8 _ refl) (items_utf8 false ds n kept)
  data_utf8 (object ms) zero kept = absurd kept
  data_utf8 (object ms) (suc n) kept = one_byte 123 _ (ascii_utf8 _ refl) (members_utf8 false ms n kept.1)

  items_utf8 : (later : Bool) (ds : Items) (n : ℕ) → AreKept ds n → IsUtf8 (items_text later ds)
  items_utf8 later no_items n kept = ascii_utf8 (93 ∷ []) refl
  items_utf8 later (item d ds) n kept =
      IsUtf8-append _ _ (comma_utf8 later) (IsUtf8-append _ _ (data_utf8 d n kept.0) (items_utf8 true ds n kept.1))

  members_utf8 : (later : Bool) (ms : Members) (n : ℕ) → MembersAreKept ms n → IsUtf8 (members_text later ms)
  members_utf8 later no_members n kept = ascii_utf8 (125 ∷ []) refl
  members_utf8 later (member k d ms) n kept =
      IsUtf8-append _ _ (comma_utf8 later) (IsUtf8-append _ _ (IsUtf8-quoted k (ascii_utf8 k kept.0))
      (one_byte 58 _ (ascii_utf8 _ refl) (IsUtf8-append _ _ (data_utf8 d n kept.1) (members_utf8 true ms n kept.2))))

-- ---- the whole text

abbrev parsed : List Token → Option Data
parsed ts = option_and_then of_json (option_and_then (λ p. json.if_last p.0 p.1) (json.value max_depth ts))

text_again : (d : Data) → IsKept d max_depth → read (compact_text d) ≡ Some d
text_again d kept =
    let same : tokens (compact_text d) ≡ tree.json_tokens (outline d) ++ [] =
    ap tokens (sym (print-outline d)) ∙ tokens-print (tree.json_tokens (outline d)) (ArePrintable-json_tokens (outline d) (numbers d max_depth kept))
    ∙ sym (append-nil _) in
    ap parsed same
    ∙ ap (λ o. option_and_then of_json (option_and_then (λ p. json.if_last p.0 p.1) o)) (value-json_tokens (outline d) max_depth [] (shallow d max_depth kept))
    ∙ data_again d max_depth kept

pub kept_again : KeptDataAgain
kept_again d kept = (data_utf8 d max_depth kept, text_again d kept)

-- where data are kept only memory can lack
pub kept_fails : (fault : ReadFault) (M : Type 0) (text : List ℕ) (d : Data) → ((fault ≡ faults.Memory) ↔ M) → ((M → ⊥) → IsUtf8 text → read text ≡ None)
    → IsKept d max_depth → text ≡ compact_text d → Fails fault (Some d)
kept_fails faults.Memory M text d told refused kept is = tt
kept_fails faults.Form M text d told refused kept is =
    let none : read text ≡ None = refused (λ m. absurd (form_no_memory (told.1 m))) (subst IsUtf8 (sym is) (kept_again d kept).0) in
    sym (kept_again d kept).1 ∙ ap read (sym is) ∙ none
  where
    form_no_memory : faults.Form ≡ faults.Memory → ⊥
    form_no_memory e = cc
