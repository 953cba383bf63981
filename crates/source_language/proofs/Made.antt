-- Well made commands: those of invariants and procedures in every source language, and those of choices, loops, assertions and
-- assumptions in languages whose conditions are booleans, from the expressions and names in them. The names of temporaries begin with no
-- `#`.
use Rattle.std.proofs.Common.{◌≡◌, ℕ, zero, suc, ◌+◌, pos, Bool, true, false, ◌&&◌, List, [], ◌∷◌, ◌++◌, length, refl, ◌∙◌}
use Rattle.std.specs.List.{list_all}
use Rattle.std.proofs.lemmas.Bool.{and_from, and_parts}
use Rattle.std.proofs.lemmas.List.Folds.{list_all-append}
use Rattle.std.specs.Prelude.{codes}
use Rattle.gil_values.specs.Pure.{text}
use Rattle.gil_syntax.specs.declared.assertions.Param.{Param}
use Rattle.gil_syntax.specs.Pure.{PureExpr, literal, PureItem, PureCommand, ifgoto, fail, vanish, return, loop_invariant, PureNumberedCommand}
use Rattle.gil_syntax.specs.WellMade.{is_program_name, is_well_made_expr, are_logical, is_well_made_command, is_well_made_proc}
use Rattle.source_language.specs.Code.{truth, jump}
use Rattle.source_language.specs.Compiled.{if_code, while_code, assert_code, assume_code}
use Rattle.source_language.specs.Names.{temporaries_from, caught, own_names}
use Rattle.source_language.specs.Procedures.{placed, null, nulls, procedure_of}

abbrev pub AreMade : List PureNumberedCommand → Type 0
AreMade cs = list_all (λ c. is_well_made_command c.command) cs ≡ true

pub one_expr : (e : PureExpr) → is_well_made_expr e ≡ true → list_all is_well_made_expr (e ∷ []) ≡ true
one_expr e h = and_from _ true h refl

pub made_one : (at : ℕ) (c : PureCommand) → is_well_made_command c ≡ true → AreMade (placed at c ∷ [])
made_one at c h = and_from _ true h refl

pub made_append : (cs ds : List PureNumberedCommand) → AreMade cs → AreMade ds → AreMade (cs ++ ds)
made_append cs ds a b = list_all-append (λ (c : PureNumberedCommand). is_well_made_command c.command) cs ds ∙ and_from _ _ a b

pub made_jump : (at label : ℕ) (e : PureExpr) (cs : List PureNumberedCommand) → is_well_made_expr e ≡ true → AreMade cs → AreMade (jump at e label ∷ cs)
made_jump at label e cs h a = and_from (is_well_made_command (ifgoto e (pos label))) _ (one_expr e h) a

made_from : (i n : ℕ) → list_all is_program_name (temporaries_from i n) ≡ true
made_from i zero = refl
made_from i (suc n) = made_from (i + 1) n

pub made_temporaries : (n : ℕ) → list_all is_program_name (temporaries_from 0 n) ≡ true
made_temporaries n = made_from 0 n

pub made_own : (n : ℕ) (catches : Bool) → list_all is_program_name (own_names n catches) ≡ true
made_own n true = list_all-append is_program_name (temporaries_from 0 n) (caught ∷ []) ∙ and_from _ _ (made_from 0 n) refl
made_own n false = made_from 0 n

made_nulls : (at : ℕ) (xs : List (List ℕ)) → list_all is_program_name xs ≡ true → AreMade (nulls at xs)
made_nulls at [] h = refl
made_nulls at (x ∷ xs) h =
    let parts = and_parts (is_program_name x) (list_all is_program_name xs) h in
    and_from _ _ (and_from _ true parts.0 refl) (made_nulls at xs parts.1)

pub made_assert : (pc at : ℕ) (e : PureExpr) → is_well_made_expr e ≡ true → AreMade (assert_code pc at e)
made_assert pc at e h = made_jump at (pc + 2) e (placed at (fail (literal (text (codes "assert")))) ∷ []) h refl

pub made_assume : (pc at : ℕ) (e : PureExpr) → is_well_made_expr e ≡ true → AreMade (assume_code pc at e)
made_assume pc at e h = made_jump at (pc + 2) e (placed at vanish ∷ []) h refl

pub made_if : (pc at : ℕ) (e : PureExpr) (off on : List PureNumberedCommand) → is_well_made_expr e ≡ true → AreMade off → AreMade on → AreMade (if_code pc at e off on)
made_if pc at e off on h a b = made_jump at (pc + 1 + length off + 1) e (off ++ second) h
    (made_append off second a (made_jump at (pc + 1 + length off + 1 + length on) truth on refl b))
  where
    second : List PureNumberedCommand
    second = jump at truth (pc + 1 + length off + 1 + length on) ∷ on

pub made_while : (pc at : ℕ) (e : PureExpr) (front body : List PureNumberedCommand) → is_well_made_expr e ≡ true → AreMade front → AreMade body
    → AreMade (while_code pc at e front body)
made_while pc at e front body h a b = made_append front (jump at e (pc + length front + 1 + 1) ∷ second) a
    (made_jump at (pc + length front + 1 + 1) e second h
    (made_jump at (pc + length front + 1 + 1 + length body + 1) truth (body ++ jump at truth pc ∷ []) refl
    (made_append body (jump at truth pc ∷ []) b refl)))
  where
    second : List PureNumberedCommand
    second = jump at truth (pc + length front + 1 + 1 + length body + 1) ∷ (body ++ jump at truth pc ∷ [])

-- the invariant of a loop lists more names
pub made_invariant : (at : ℕ) (xs more : List (List ℕ)) (ps : List Param) (items : List PureItem) → list_all is_program_name more ≡ true
    → is_well_made_command (loop_invariant xs ps items) ≡ true → AreMade (placed at (loop_invariant (xs ++ more) ps items) ∷ [])
made_invariant at xs more ps items made h =
    let outer = and_parts (list_all is_program_name xs && are_logical ps) _ h in
    let inner = and_parts (list_all is_program_name xs) _ outer.0 in
    let names = list_all-append is_program_name xs more ∙ and_from _ _ inner.0 made in
    made_one at (loop_invariant (xs ++ more) ps items) (and_from _ _ (and_from _ _ names inner.1) outer.1)

-- the procedure of a function
pub made_procedure : (f : List ℕ) (params : List (List ℕ)) (at : ℕ) (names : List (List ℕ)) (code : ℕ → List PureNumberedCommand)
    → list_all is_program_name params ≡ true → list_all is_program_name names ≡ true → AreMade (code (length names))
    → is_well_made_proc (procedure_of f params at names code) ≡ true
made_procedure f params at names code heads own made =
    and_from _ _ heads
    (made_append (nulls at names) (code (length names) ++ placed at (return null) ∷ []) (made_nulls at names own)
    (made_append (code (length names)) (placed at (return null) ∷ []) made refl))
