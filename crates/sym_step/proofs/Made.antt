-- Commands of well-made programs: their literals may be spelled, and their draws have sorts.
use Rattle.std.proofs.Common.{◌≡◌, ℕ, List, [], ◌∷◌, Bool, true, ◌&&◌, Some, None, refl, sym, ap, subst, ◌∙◌, true≢false}
use Rattle.std.specs.List.{list_all, flat_map}
use Rattle.std.proofs.lemmas.Bool.{and_parts}
use Rattle.gil_values.specs.declared.kinds.Kind.{Kind}
use Rattle.gil_machine.proofs.Proper.{procs_made, find_made, command_made, MadeCommand}
use Rattle.gil_syntax.specs.Programs.{find_proc}
use Rattle.gil_syntax.specs.Pure.{PureExpr, literal, name, logical, list_of, unary_of, binary_of, PureNumberedCommand, PureParts, isym}
use Rattle.gil_syntax.specs.Subexpressions.{literals_of, own_literals, subexpressions, exprs_of}
use Rattle.gil_syntax.specs.WellMade.{is_spellable, is_drawable, is_well_made_node, is_well_made_expr, is_well_made_command, is_well_made, is_program_name, has_well_made_names}
use Rattle.sym_model.proofs.ListLaws.{not_none}
use Rattle.sym_paths.specs.Meaning.{command_of_frames}
use Rattle.sym_paths.specs.Moves.{draw_sort}
use Rattle.sym_paths.specs.Pure.{PureFrame}

made_at : (p : PureParts) (fs : List PureFrame) (c : PureNumberedCommand) → is_well_made p ≡ true → command_of_frames p fs ≡ Some c → is_well_made_command c.command ≡ true
made_at p [] c made at = not_none at
made_at p (f ∷ fs) c made at = subst MadeCommand at (command_made (find_proc p.procs f.procedure) f.next (find_made p.procs f.procedure (procs_made p made)))

both_true : (a b : Bool) → a ≡ true → b ≡ true → (a && b) ≡ true
both_true a b x y = ap (λ c. c && b) x ∙ y

spelled_nodes : (es : List PureExpr) → list_all is_well_made_node es ≡ true → list_all is_spellable (flat_map own_literals es) ≡ true
spelled_nodes [] made = refl
spelled_nodes (literal v ∷ es) made = let (first, rest) = and_parts (is_spellable v) (list_all is_well_made_node es) made in both_true (is_spellable v) (list_all is_spellable (flat_map own_literals es)) first (spelled_nodes es rest)
spelled_nodes (name x ∷ es) made = spelled_nodes es (and_parts (is_well_made_node (name x)) (list_all is_well_made_node es) made).1
spelled_nodes (logical x ∷ es) made = spelled_nodes es (and_parts (is_well_made_node (logical x)) (list_all is_well_made_node es) made).1
spelled_nodes (list_of ds ∷ es) made = spelled_nodes es (and_parts (is_well_made_node (list_of ds)) (list_all is_well_made_node es) made).1
spelled_nodes (unary_of op d ∷ es) made = spelled_nodes es (and_parts (is_well_made_node (unary_of op d)) (list_all is_well_made_node es) made).1
spelled_nodes (binary_of op d e ∷ es) made = spelled_nodes es (and_parts (is_well_made_node (binary_of op d e)) (list_all is_well_made_node es) made).1

spelled : (e : PureExpr) → is_well_made_expr e ≡ true → list_all is_spellable (literals_of e) ≡ true
spelled e made = spelled_nodes (subexpressions e) made

all_spelled : (es : List PureExpr) → list_all is_well_made_expr es ≡ true → list_all (λ e. list_all is_spellable (literals_of e)) es ≡ true
all_spelled [] made = refl
all_spelled (e ∷ es) made =
    let (first, rest) = and_parts (is_well_made_expr e) (list_all is_well_made_expr es) made in
    both_true (list_all is_spellable (literals_of e)) (list_all (λ d. list_all is_spellable (literals_of d)) es) (spelled e first) (all_spelled es rest)

drawable : (k : Kind) → is_drawable k ≡ true → draw_sort k ≡ None → ⊥
drawable Kind.Int fine none = not_none (sym none)
drawable Kind.Bool fine none = not_none (sym none)
drawable Kind.Str fine none = not_none (sym none)
drawable Kind.Undef fine none = true≢false (sym fine)
drawable Kind.Null fine none = true≢false (sym fine)
drawable Kind.Sym fine none = true≢false (sym fine)
drawable Kind.Kind fine none = true≢false (sym fine)
drawable Kind.Proc fine none = true≢false (sym fine)
drawable Kind.List fine none = true≢false (sym fine)

-- ---- what the command has at which frames of a well-made program stand

module _ (p : PureParts) (fs : List PureFrame) (c : PureNumberedCommand) (well_made : is_well_made p ≡ true) (at : command_of_frames p fs ≡ Some c) where
  made : is_well_made_command c.command ≡ true
  made = made_at p fs c well_made at

  pub spelled_exprs : (es : List PureExpr) → exprs_of c.command ≡ es → list_all (λ e. list_all is_spellable (literals_of e)) es ≡ true
  spelled_exprs es is =
      all_spelled es (subst (λ ds. list_all is_well_made_expr ds ≡ true) is (and_parts (has_well_made_names c.command) (list_all is_well_made_expr (exprs_of c.command)) made).1)

  pub spelled_first : (e : PureExpr) (es : List PureExpr) → exprs_of c.command ≡ e ∷ es → list_all is_spellable (literals_of e) ≡ true
  spelled_first e es is = (and_parts (list_all is_spellable (literals_of e)) (list_all (λ d. list_all is_spellable (literals_of d)) es) (spelled_exprs (e ∷ es) is)).0

  pub spelled_later : (e : PureExpr) (es : List PureExpr) → exprs_of c.command ≡ e ∷ es → list_all (λ d. list_all is_spellable (literals_of d)) es ≡ true
  spelled_later e es is = (and_parts (list_all is_spellable (literals_of e)) (list_all (λ d. list_all is_spellable (literals_of d)) es) (spelled_exprs (e ∷ es) is)).1

  pub drawn_kind : (x : List ℕ) (kind : Kind) → c.command ≡ isym x kind → draw_sort kind ≡ None → ⊥
  drawn_kind x kind is none =
      drawable kind
      (and_parts (is_program_name x) (is_drawable kind)
      (and_parts (has_well_made_names (isym x kind)) (list_all is_well_made_expr (exprs_of (isym x kind))) (ap is_well_made_command (sym is) ∙ made)).0).1
      none
