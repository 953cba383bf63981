-- Commands whose jumps stay within their procedure, and bodies that end.
use Rattle.std.proofs.Common.{◌≡◌, ℕ, suc, ◌+◌, ◌≤◌, pos, List, [], ◌∷◌, ◌++◌, length, Bool, true, false, Option, Some, None, not, append_assoc, refl, sym, ap, subst, ◌∙◌, true≢false, arith, length-append}
use Rattle.std.specs.Prelude.{codes, ◌||◌, int_lt, int_le}
use Rattle.std.specs.List.{list_any}
use Rattle.std.proofs.lemmas.Bool.{lt-leb}
use Rattle.std.proofs.lemmas.List.Folds.{list_any-append}
use Rattle.gil_values.specs.Pure.{text}
use Rattle.gil_syntax.specs.Pure.{PureExpr, literal, fail, vanish, return, PureNumberedCommand}
use Rattle.gil_syntax.specs.Valid.{a_proc, is_bad_jump, has_bad_label, last_ends_body, has_no_end}
use Rattle.source_language.specs.Code.{jump, truth}
use Rattle.source_language.specs.Compiled.{if_code, while_code, assert_code, assume_code, invariant_code, logic_command}
use Rattle.source_language.specs.Procedures.{placed, null, nulls, body_of, procedure_of}
use Rattle.source_language.specs.Pure.{PureLogic, fold_use, unfold_use, assert_that, invariant_by_itself, PureInvariant}
use Rattle.source_language.proofs.NumberedNames.{nulls_length}

-- ---- labels

abbrev bad : ℕ → PureNumberedCommand → Bool
bad n c = is_bad_jump n c.command

-- no jump of these goes past a place
abbrev pub Fits : ℕ → List PureNumberedCommand → Type 0
Fits n cs = list_any (bad (suc n)) cs ≡ false

pub neither : (a b : Bool) → a ≡ false → b ≡ false → (a || b) ≡ false
neither true b e f = absurd (true≢false e)
neither false b e f = f

pub fits_append : (n : ℕ) (cs ds : List PureNumberedCommand) → Fits n cs → Fits n ds → Fits n (cs ++ ds)
fits_append n cs ds f g = list_any-append (bad (suc n)) cs ds ∙ neither _ _ f g

pub fits_jump : (n at label : ℕ) (e : PureExpr) (cs : List PureNumberedCommand) → label ≤ n → Fits n cs → Fits n (jump at e label ∷ cs)
fits_jump n at label e cs le f =
    neither (bad (suc n) (jump at e label)) (list_any (bad (suc n)) cs)
    (neither (int_lt (pos label) (pos 0)) (int_le (pos (suc n)) (pos label)) (lt-leb (suc label) 0 (omega arith))
    (lt-leb (suc n) label (omega arith))) f

pub fits_invariant : (n at : ℕ) (more : List (List ℕ)) (i : Option PureInvariant) → Fits n (invariant_code at more i)
fits_invariant n at more None = refl
fits_invariant n at more (Some i) = refl

pub fits_logic : (n at : ℕ) (c : PureLogic) → Fits n (placed at (logic_command c) ∷ [])
fits_logic n at (fold_use u) = refl
fits_logic n at (unfold_use u) = refl
fits_logic n at (assert_that items) = refl
fits_logic n at (invariant_by_itself i) = refl

pub fits_assert : (n pc at : ℕ) (e : PureExpr) → pc + 2 ≤ n → Fits n (assert_code pc at e)
fits_assert n pc at e le = fits_jump n at (pc + 2) e (placed at (fail (literal (text (codes "assert")))) ∷ []) le refl

pub fits_assume : (n pc at : ℕ) (e : PureExpr) → pc + 2 ≤ n → Fits n (assume_code pc at e)
fits_assume n pc at e le = fits_jump n at (pc + 2) e (placed at vanish ∷ []) le refl

-- a choice, where its blocks fit from the places on at which they stand
pub fits_if : (n pc at : ℕ) (e : PureExpr) (off on : List PureNumberedCommand) → pc + length (if_code pc at e off on) ≤ n
    → (pc + 1 + length off ≤ n → Fits n off) → (pc + 1 + length off + 1 + length on ≤ n → Fits n on) → Fits n (if_code pc at e off on)
fits_if n pc at e off on le fits_off fits_on =
    fits_jump n at (pc + 1 + length off + 1) e (off ++ second) (omega (arith, le, long))
    (fits_append n off second (fits_off (omega (arith, le, long)))
    (fits_jump n at (pc + 1 + length off + 1 + length on) truth on (omega (arith, le, long)) (fits_on (omega (arith, le, long)))))
  where
    second : List PureNumberedCommand
    second = jump at truth (pc + 1 + length off + 1 + length on) ∷ on

    long : length (off ++ second) ≡ length off + suc (length on)
    long = length-append off second

-- a loop, where the commands before its test fit, and its body from the place on at which it stands
pub fits_while : (n pc at : ℕ) (e : PureExpr) (front code : List PureNumberedCommand) → pc + length (while_code pc at e front code) ≤ n
    → Fits n front → (pc + length front + 1 + 1 + length code ≤ n → Fits n code) → Fits n (while_code pc at e front code)
fits_while n pc at e front code le fits_front fits_code =
    fits_append n front (jump at e (pc + length front + 1 + 1) ∷ second) fits_front
    (fits_jump n at (pc + length front + 1 + 1) e second (omega (arith, le, long, longer))
    (fits_jump n at (pc + length front + 1 + 1 + length code + 1) truth back (omega (arith, le, long, longer))
    (fits_append n code (jump at truth pc ∷ []) (fits_code (omega (arith, le, long, longer)))
    (fits_jump n at pc truth [] (omega (arith, le)) refl))))
  where
    back : List PureNumberedCommand
    back = code ++ jump at truth pc ∷ []

    second : List PureNumberedCommand
    second = jump at truth (pc + length front + 1 + 1 + length code + 1) ∷ back

    long : length (while_code pc at e front code) ≡ length front + suc (suc (length back))
    long = length-append front (jump at e (pc + length front + 1 + 1) ∷ second)

    longer : length back ≡ length code + 1
    longer = length-append code (jump at truth pc ∷ [])

nulls_fit : (n at : ℕ) (xs : List (List ℕ)) → Fits n (nulls at xs)
nulls_fit n at [] = refl
nulls_fit n at (x ∷ xs) = nulls_fit n at xs

-- ---- procedures of functions

last_append : (cs : List PureNumberedCommand) (c : PureNumberedCommand) → last_ends_body (cs ++ c ∷ []) ≡ last_ends_body (c ∷ [])
last_append [] c = refl
last_append (d ∷ []) c = refl
last_append (d ∷ e ∷ cs) c = last_append (e ∷ cs) c

module _ (f : List ℕ) (params : List (List ℕ)) (at : ℕ) (names : List (List ℕ)) (code : ℕ → List PureNumberedCommand) where
  abbrev front : List PureNumberedCommand
  front = nulls at names

  abbrev inside : List PureNumberedCommand
  inside = code (length names)

  -- its labels are within, where those of its statements fit
  pub no_bad_label : ((n : ℕ) → length names + length inside ≤ n → Fits n inside) → has_bad_label (a_proc (procedure_of f params at names code)) ≡ false
  no_bad_label fits = subst (λ n. list_any (bad n) (body_of at names code) ≡ false) (sym size)
      (fits_append end front (inside ++ placed at (return null) ∷ []) (nulls_fit end at names)
      (fits_append end inside (placed at (return null) ∷ []) (fits end (omega (arith, nulls_length at names))) refl))
    where
      end : ℕ
      end = length front + length inside

      size : length (body_of at names code) ≡ suc end
      size = omega (arith, length-append front (inside ++ placed at (return null) ∷ []), length-append inside (placed at (return null) ∷ []))

  -- it ends with a return
  pub has_end : has_no_end (a_proc (procedure_of f params at names code)) ≡ false
  has_end =
      ap (λ cs. not (last_ends_body cs)) (sym (append_assoc front inside (placed at (return null) ∷ [])))
      ∙ ap not (last_append (front ++ inside) (placed at (return null)))
