-- Assertions of programs can be added: their literals are spelled, and uses of core predicates are those of the memory.
use Rattle.std.proofs.Common.{◌≡◌, ◌⊎◌, ⊎_elim, inl, inr, ℕ, zero, suc, ◌+◌, List, [], ◌∷◌, ◌++◌, map, take, length, Bool, true, false, not, ◌&&◌, ◌||◌, cond, Option, Some, None, is_some, slice_get, IsTrue, refl, sym, ap, subst, ◌∙◌, true≢false, codes}
use Rattle.std.specs.List.{list_all, list_any, flat_map, find}
use Rattle.std.specs.Option.{option_and_then}
use Rattle.std.specs.Prelude.{◌==◌}
use Rattle.std.specs.Str.{bytes_eq}
use Rattle.std.specs.Cmp.Lexicographic.{pointwise}
use Rattle.std.proofs.lemmas.Bool.{and_parts}
use Rattle.std.proofs.lemmas.Bool.Decides.{Decides-eqb}
use Rattle.std.proofs.lemmas.List.Folds.{list_all-append, list_any-append}
use Rattle.std.proofs.lemmas.Slice.Eq.{bytes_eq-Decides}
use Rattle.gil_values.specs.Pure.{PureValue}
use Rattle.gil_syntax.specs.declared.validity.InvalidKind.{InvalidKind}
use Rattle.gil_syntax.specs.declared.validity.InvalidKind.TheVariants.{Duplicate, UnknownName, Arity}
use Rattle.gil_syntax.specs.declared.assertions.Param.{Param}
use Rattle.gil_syntax.specs.Programs.{find_proc, find_spec, find_pred}
use Rattle.gil_syntax.specs.Pure.{PureExpr, literal, name, logical, list_of, unary_of, binary_of, PurePredUse, PureItem, pure, uses, PureCommand, assign, call, act, usym, isym, ifgoto, return, fail, throw, vanish, fold_use, unfold_use, assert_that, loop_invariant, PureNumberedCommand, PureProc, PureSpec, PurePredDef, PureParts}
use Rattle.gil_syntax.specs.Subexpressions.{subexpressions, own_literals, literals_of, exprs_of_item, uses_of_item, exprs_of, uses_of, assertions_of}
use Rattle.gil_syntax.specs.Valid.{is_among, param_names, Signature, core_predicates, signature_of, predicates_of, is_named, ProgramItem, a_proc, a_spec, a_pred, items_of, Piece, piece_of_assertion, piece_of_command, pieces_of, logicals_of_spec, fits, misuses, some_misuses, has_other_params, differs_from, has_unknown_name, has_fault, has_fault_if_there, fault_at, IsValid}
use Rattle.gil_syntax.specs.WellMade.{is_spellable, is_well_made_node, is_well_made_expr, is_well_made_assertion, is_well_made_command, has_well_made_names, is_well_made_proc, is_well_made_spec, is_well_made_pred, is_well_made, are_program_names, are_logical, is_program_name}
use Rattle.gil_syntax.specs.ByName.{find_signature}
use Rattle.gil_syntax.proofs.CheckLemmas.{distinct}
use Rattle.gil_syntax.proofs.ItemLemmas.{proc_stands, spec_stands, pred_stands}
use Rattle.gil_syntax.proofs.PieceLemmas.{misuses-found}
use Rattle.mem_model.specs.declared.cores.Core.{Core}
use Rattle.mem_model.specs.declared.cores.Core.TheVariants.{Prop, Cell, Shape, Bound, Dom, Proto, Gone}
use Rattle.mem_model.specs.declared.keys.MemoryName.{MemoryName}
use Rattle.mem_model.specs.CoreNames.{core_of, ins_of, outs_of, has_core}
use Rattle.assert_logic.specs.declared.checking.ModeKind.{ModeKind}
use Rattle.assert_logic.specs.declared.checking.ModeKind.TheVariants.{In, Out, Core as OfMemory}
use Rattle.assert_logic.specs.declared.checking.ModeItem.TheVariants.{Spec, Pred, Proc}
use Rattle.assert_logic.specs.Modes.{Scope, precondition, postcondition, case, logic_command, either, fault_if, first_fault, is_foreign, is_foreign_core, known_at_first, known_after, outs_fit, use_fault, item_fault, items_fault, assertion_fault, knows_outs, case_fault, command_fault, spec_fault, pred_fault, proc_fault, HasModes}
use Rattle.assert_logic.specs.Names.{Known, knows_all}
use Rattle.sym_model.specs.Lists.{Each}
use Rattle.sym_model.proofs.ListLaws.{each_by_place}
use Rattle.sym_states.specs.Producing.{are_spelled, FitsCore, IsOfMemory, MayAdd}
use Rattle.addable_programs.specs.Addable.{IsAddableUse, IsAddableCommand, IsAddableSpec, IsAddable, ProgramsAreAddable}

no_value : {X P : Type 0} (x : X) → None ≡ Some x → P
no_value x is = absurd (cc)

same_some : {X : Type 0} {x y : X} → Some x ≡ Some y → x ≡ y
same_some is = cc

isnt_true : (b : Bool) → ¬ (b ≡ true) → b ≡ false
isnt_true true isnt = absurd (isnt refl)
isnt_true false isnt = refl

isnt_false : (b : Bool) → not b ≡ false → b ≡ true
isnt_false true is = refl
isnt_false false is = absurd (true≢false is)

either_false : (a b : Bool) → (a || b) ≡ false → (a ≡ false) × (b ≡ false)
either_false true b is = absurd (true≢false is)
either_false false b is = (refl, is)

either_none : (o later : Option ModeKind) → either o later ≡ None → (o ≡ None) × (later ≡ None)
either_none (Some why) later is = no_value why (sym is)
either_none None later is = (refl, is)

not_faulty : (b : Bool) (why : ModeKind) → fault_if b why ≡ None → b ≡ false
not_faulty true why is = no_value why (sym is)
not_faulty false why is = refl

all_at : {X : Type 0} (f : X → Bool) (xs : List X) (i : ℕ) (x : X) → slice_get xs i ≡ Some x → list_all f xs ≡ true → f x ≡ true
all_at f [] i x at all = no_value x at
all_at f (y ∷ ys) zero x at all = ap f (sym (same_some at)) ∙ (and_parts (f y) (list_all f ys) all).0
all_at f (y ∷ ys) (suc i) x at all = all_at f ys i x at (and_parts (f y) (list_all f ys) all).1

none_at : {X : Type 0} (f : X → Bool) (xs : List X) (i : ℕ) (x : X) → slice_get xs i ≡ Some x → list_any f xs ≡ false → f x ≡ false
none_at f [] i x at none = no_value x at
none_at f (y ∷ ys) zero x at none = ap f (sym (same_some at)) ∙ (either_false (f y) (list_any f ys) none).0
none_at f (y ∷ ys) (suc i) x at none = none_at f ys i x at (either_false (f y) (list_any f ys) none).1

at_map : {X Y : Type 0} (f : X → Y) (xs : List X) (i : ℕ) (x : X) → slice_get xs i ≡ Some x → slice_get (map f xs) i ≡ Some (f x)
at_map f [] i x at = no_value x at
at_map f (y ∷ ys) zero x at = ap (λ z. Some (f z)) (same_some at)
at_map f (y ∷ ys) (suc i) x at = at_map f ys i x at

first_none_at : {X : Type 0} (fault : X → Option ModeKind) (xs : List X) (i : ℕ) (x : X) → slice_get xs i ≡ Some x → first_fault fault xs ≡ None → fault x ≡ None
first_none_at fault [] i x at none = no_value x at
first_none_at fault (y ∷ ys) zero x at none = ap fault (sym (same_some at)) ∙ (either_none (fault y) (first_fault fault ys) none).0
first_none_at fault (y ∷ ys) (suc i) x at none = first_none_at fault ys i x at (either_none (fault y) (first_fault fault ys) none).1

-- ---- literals

spelled_nodes : (ns : List PureExpr) → list_all is_well_made_node ns ≡ true → list_all is_spellable (flat_map own_literals ns) ≡ true
spelled_nodes [] made = refl
spelled_nodes (e ∷ es) made = let (here, later) = and_parts (is_well_made_node e) (list_all is_well_made_node es) made in by e here (spelled_nodes es later)
  where
    by : (d : PureExpr) → is_well_made_node d ≡ true → list_all is_spellable (flat_map own_literals es) ≡ true → list_all is_spellable (own_literals d ++ flat_map own_literals es) ≡ true
    by (literal v) here later = ap (λ b. b && list_all is_spellable (flat_map own_literals es)) here ∙ later
    by (name x) here later = later
    by (logical x) here later = later
    by (list_of ds) here later = later
    by (unary_of op d) here later = later
    by (binary_of op c d) here later = later

spelled : (es : List PureExpr) → list_all is_well_made_expr es ≡ true → are_spelled es ≡ true
spelled [] made = refl
spelled (e ∷ es) made =
    let (here, later) = and_parts (is_well_made_expr e) (list_all is_well_made_expr es) made in
    (λ i. spelled_nodes (subexpressions e) here i && are_spelled es) ∙ spelled es later

-- ---- uses of core predicates

module _ (p : PureParts) (valid : IsValid p) where
  fit_by : (u : PurePredUse) (x : List ℕ) (g : Signature) → bytes_eq u.pred x ≡ true → find_signature (predicates_of p) x ≡ Some g → misuses (predicates_of p) u ≡ false → (length u.ins ≡ g.ins) × (length u.outs ≡ g.outs)
  fit_by u x g same found right =
      let there : find_signature (predicates_of p) u.pred ≡ Some g = ap (find_signature (predicates_of p)) ((bytes_eq-Decides u.pred x).0 same) ∙ found in
      let both : (g.ins == length u.ins && g.outs == length u.outs) ≡ true = isnt_false (g.ins == length u.ins && g.outs == length u.outs) (sym (misuses-found p u g (distinct p (valid Duplicate)) there) ∙ right) in
      let (ins, outs) = and_parts (g.ins == length u.ins) (g.outs == length u.outs) both in
      (sym ((Decides-eqb g.ins (length u.ins)).0 ins), sym ((Decides-eqb g.outs (length u.outs)).0 outs))

  core_fits : (u : PurePredUse) (core : Core) → core_of u.pred ≡ Some core → misuses (predicates_of p) u ≡ false → (length u.ins ≡ ins_of core) × (length u.outs ≡ outs_of core)
  core_fits u core is right =
      by (bytes_eq u.pred (codes "prop")) (bytes_eq u.pred (codes "cell")) (bytes_eq u.pred (codes "shape")) (bytes_eq u.pred (codes "bound")) (bytes_eq u.pred (codes "dom")) (bytes_eq u.pred (codes "proto")) (bytes_eq u.pred (codes "gone")) refl refl refl refl refl refl refl is
    where
      one : (k : Core) → Some k ≡ Some core → (length u.ins ≡ ins_of k) × (length u.outs ≡ outs_of k) → (length u.ins ≡ ins_of core) × (length u.outs ≡ outs_of core)
      one k same fit = subst (λ (c : Core). (length u.ins ≡ ins_of c) × (length u.outs ≡ outs_of c)) (same_some same) fit

      by : (a b c d e f g : Bool) → bytes_eq u.pred (codes "prop") ≡ a → bytes_eq u.pred (codes "cell") ≡ b → bytes_eq u.pred (codes "shape") ≡ c → bytes_eq u.pred (codes "bound") ≡ d → bytes_eq u.pred (codes "dom") ≡ e → bytes_eq u.pred (codes "proto") ≡ f
          → bytes_eq u.pred (codes "gone") ≡ g
          → cond a (Some Prop) (cond b (Some Cell) (cond c (Some Shape) (cond d (Some Bound) (cond e (Some Dom) (cond f (Some Proto) (cond g (Some Gone) None)))))) ≡ Some core → (length u.ins ≡ ins_of core) × (length u.outs ≡ outs_of core)
      by true b c d e f g ha hb hc hd he hf hg found = one Prop found (fit_by u (codes "prop") (record { name = codes "prop"; ins = 2; outs = 1 }) ha refl right)
      by false true c d e f g ha hb hc hd he hf hg found = one Cell found (fit_by u (codes "cell") (record { name = codes "cell"; ins = 2; outs = 1 }) hb refl right)
      by false false true d e f g ha hb hc hd he hf hg found = one Shape found (fit_by u (codes "shape") (record { name = codes "shape"; ins = 1; outs = 1 }) hc refl right)
      by false false false true e f g ha hb hc hd he hf hg found = one Bound found (fit_by u (codes "bound") (record { name = codes "bound"; ins = 1; outs = 1 }) hd refl right)
      by false false false false true f g ha hb hc hd he hf hg found = one Dom found (fit_by u (codes "dom") (record { name = codes "dom"; ins = 1; outs = 1 }) he refl right)
      by false false false false false true g ha hb hc hd he hf hg found = one Proto found (fit_by u (codes "proto") (record { name = codes "proto"; ins = 1; outs = 1 }) hf refl right)
      by false false false false false false true ha hb hc hd he hf hg found = one Gone found (fit_by u (codes "gone") (record { name = codes "gone"; ins = 1; outs = 0 }) hg refl right)
      by false false false false false false false ha hb hc hd he hf hg found = no_value core found

  module _ (memory : MemoryName) where
    core_is : (u : PurePredUse) → is_foreign memory u.pred ≡ false → misuses (predicates_of p) u ≡ false → FitsCore memory (core_of u.pred) u
    core_is u own right = by (core_of u.pred) refl own
      where
        by : (o : Option Core) → core_of u.pred ≡ o → is_foreign_core memory o ≡ false → FitsCore memory o u
        by None is own_core = tt
        by (Some core) is own_core = let (ins, outs) = core_fits u core is right in (isnt_false (has_core memory core) own_core, ins, outs)

    -- the items of an assertion that is read in a scope
    items_addable : (scope : Scope) (before items : List PureItem) → is_well_made_assertion items ≡ true → items_fault memory scope before items ≡ None → list_any (misuses (predicates_of p)) (flat_map uses_of_item items) ≡ false → Each (MayAdd memory) items
    items_addable scope before [] made none right = tt
    items_addable scope before (item ∷ items) made none right =
        let (made_here, made_there) = and_parts (list_all is_well_made_expr (exprs_of_item item)) (is_well_made_assertion items) made in
        let (fault_here, fault_there) = either_none (item_fault memory scope (known_after (known_at_first scope) before) item) (items_fault memory scope (before ++ item ∷ []) items) none in
        let (right_here, right_there) = either_false (list_any (misuses (predicates_of p)) (uses_of_item item)) (list_any (misuses (predicates_of p)) (flat_map uses_of_item items)) (sym (list_any-append (misuses (predicates_of p)) (uses_of_item item) (flat_map uses_of_item items)) ∙ right) in
        ((spelled (exprs_of_item item) made_here, one item fault_here right_here), items_addable scope (before ++ item ∷ []) items made_there fault_there right_there)
      where
        one : (i : PureItem) → item_fault memory scope (known_after (known_at_first scope) before) i ≡ None → list_any (misuses (predicates_of p)) (uses_of_item i) ≡ false → IsOfMemory memory i
        one (pure e) fault right_one = tt
        one (uses u) fault right_one =
            let known = known_after (known_at_first scope) before in
            let later = (either_none (fault_if (not (list_all (knows_all known) u.ins)) In) (either (fault_if (not (outs_fit scope known [] u.outs)) Out) (fault_if (is_foreign memory u.pred) OfMemory)) fault).1 in
            let last = (either_none (fault_if (not (outs_fit scope known [] u.outs)) Out) (fault_if (is_foreign memory u.pred) OfMemory) later).1 in
            core_is u (not_faulty (is_foreign memory u.pred) OfMemory last) (either_false (misuses (predicates_of p) u) false right_one).0

    addable : (scope : Scope) (ls : List Param) (items : List PureItem) → is_well_made_assertion items ≡ true → assertion_fault memory scope items ≡ None → list_any (misuses (predicates_of p)) (piece_of_assertion ls items).used ≡ false → Each (MayAdd memory) items
    addable scope ls items made none right = items_addable scope [] items made none right

    all_addable : (scope : Scope) (ls : List Param) (ass : List (List PureItem)) → list_all is_well_made_assertion ass ≡ true → first_fault (assertion_fault memory scope) ass ≡ None → some_misuses (predicates_of p) (map (piece_of_assertion ls) ass) ≡ false → Each (Each (MayAdd memory)) ass
    all_addable scope ls [] made none right = tt
    all_addable scope ls (items ∷ ass) made none right =
        let (made_here, made_there) = and_parts (is_well_made_assertion items) (list_all is_well_made_assertion ass) made in
        let (fault_here, fault_there) = either_none (assertion_fault memory scope items) (first_fault (assertion_fault memory scope) ass) none in
        let (right_here, right_there) = either_false (list_any (misuses (predicates_of p)) (piece_of_assertion ls items).used) (some_misuses (predicates_of p) (map (piece_of_assertion ls) ass)) right in
        (addable scope ls items made_here fault_here right_here, all_addable scope ls ass made_there fault_there right_there)

    all_cases : (d : PurePredDef) (ass : List (List PureItem)) → list_all is_well_made_assertion ass ≡ true → first_fault (case_fault memory d) ass ≡ None → some_misuses (predicates_of p) (map (piece_of_assertion d.logicals) ass) ≡ false → Each (Each (MayAdd memory)) ass
    all_cases d [] made none right = tt
    all_cases d (items ∷ ass) made none right =
        let (made_here, made_there) = and_parts (is_well_made_assertion items) (list_all is_well_made_assertion ass) made in
        let (fault_here, fault_there) = either_none (case_fault memory d items) (first_fault (case_fault memory d) ass) none in
        let (right_here, right_there) = either_false (list_any (misuses (predicates_of p)) (piece_of_assertion d.logicals items).used) (some_misuses (predicates_of p) (map (piece_of_assertion d.logicals) ass)) right in
        (addable (case d) d.logicals items made_here (either_none (assertion_fault memory (case d) items) (fault_if (not (knows_outs d items)) Out) fault_here).0 right_here, all_cases d ass made_there fault_there right_there)

  -- ---- items of programs

  no_fault : (kind : InvalidKind) (i : ℕ) (item : ProgramItem) (before : List ProgramItem) → slice_get (items_of p) i ≡ Some item → take i (items_of p) ≡ before → has_fault kind p before item ≡ false
  no_fault kind i item before at taken = (λ k. has_fault_if_there kind p (sym taken k) (sym at k)) ∙ isnt_true (fault_at p kind i) (valid kind i)

spec_found : (ss : List PureSpec) (f : List ℕ) (s : PureSpec) → find_spec ss f ≡ Some s → (s.name ≡ f) × ((i : ℕ) × (slice_get ss i ≡ Some s))
spec_found [] f s is = no_value s is
spec_found (t ∷ ts) f s is = by (spec_found ts f s) (bytes_eq t.name f) refl is
  where
    by : (find_spec ts f ≡ Some s → (s.name ≡ f) × ((i : ℕ) × (slice_get ts i ≡ Some s))) → (b : Bool) → bytes_eq t.name f ≡ b → cond b (Some t) (find_spec ts f) ≡ Some s → (s.name ≡ f) × ((i : ℕ) × (slice_get (t ∷ ts) i ≡ Some s))
    by later true same found = (ap (λ (x : PureSpec). x.name) (sym (same_some found)) ∙ (bytes_eq-Decides t.name f).0 same, (0, found))
    by later false other found = let (named, (i, at)) = later found in (named, (suc i, at))

pred_found : (ds : List PurePredDef) (f : List ℕ) (d : PurePredDef) → find_pred ds f ≡ Some d → (d.name ≡ f) × ((i : ℕ) × (slice_get ds i ≡ Some d))
pred_found [] f s is = no_value s is
pred_found (t ∷ ts) f s is = by (pred_found ts f s) (bytes_eq t.name f) refl is
  where
    by : (find_pred ts f ≡ Some s → (s.name ≡ f) × ((i : ℕ) × (slice_get ts i ≡ Some s))) → (b : Bool) → bytes_eq t.name f ≡ b → cond b (Some t) (find_pred ts f) ≡ Some s → (s.name ≡ f) × ((i : ℕ) × (slice_get (t ∷ ts) i ≡ Some s))
    by later true same found = (ap (λ (x : PurePredDef). x.name) (sym (same_some found)) ∙ (bytes_eq-Decides t.name f).0 same, (0, found))
    by later false other found = let (named, (i, at)) = later found in (named, (suc i, at))

proc_found : (qs : List PureProc) (f : List ℕ) (q : PureProc) → find_proc qs f ≡ Some q → (q.name ≡ f) × ((i : ℕ) × (slice_get qs i ≡ Some q))
proc_found [] f s is = no_value s is
proc_found (t ∷ ts) f s is = by (proc_found ts f s) (bytes_eq t.name f) refl is
  where
    by : (find_proc ts f ≡ Some s → (s.name ≡ f) × ((i : ℕ) × (slice_get ts i ≡ Some s))) → (b : Bool) → bytes_eq t.name f ≡ b → cond b (Some t) (find_proc ts f) ≡ Some s → (s.name ≡ f) × ((i : ℕ) × (slice_get (t ∷ ts) i ≡ Some s))
    by later true same found = (ap (λ (x : PureProc). x.name) (sym (same_some found)) ∙ (bytes_eq-Decides t.name f).0 same, (0, found))
    by later false other found = let (named, (i, at)) = later found in (named, (suc i, at))

-- a name that procedures have is that of one of them
proc_there : (qs : List PureProc) (f : List ℕ) → is_among (map (λ (q : PureProc). q.name) qs) f ≡ true → (q : PureProc) × (find_proc qs f ≡ Some q)
proc_there [] f among = absurd (true≢false (sym among))
proc_there (r ∷ qs) f among = by (bytes_eq r.name f) refl (proc_there qs f)
  where
    other : bytes_eq r.name f ≡ false → (b : Bool) → bytes_eq f r.name ≡ b → (b || is_among (map (λ (q : PureProc). q.name) qs) f) ≡ true → is_among (map (λ (q : PureProc). q.name) qs) f ≡ true
    other differs true same is = absurd (true≢false (sym ((bytes_eq-Decides r.name f).1 (sym ((bytes_eq-Decides f r.name).0 same))) ∙ differs))
    other differs false same is = is

    by : (b : Bool) → bytes_eq r.name f ≡ b → (is_among (map (λ (q : PureProc). q.name) qs) f ≡ true → (q : PureProc) × (find_proc qs f ≡ Some q)) → (q : PureProc) × (cond b (Some r) (find_proc qs f) ≡ Some q)
    by true same later = (r, refl)
    by false differs later = later (other differs (bytes_eq f r.name) refl among)

same_names : (xs ys : List (List ℕ)) → pointwise bytes_eq xs ys ≡ true → xs ≡ ys
same_names [] [] is = refl
same_names [] (y ∷ ys) is = absurd (true≢false (sym is))
same_names (x ∷ xs) [] is = absurd (true≢false (sym is))
same_names (x ∷ xs) (y ∷ ys) is =
    let (here, later) = and_parts (bytes_eq x y) (pointwise bytes_eq xs ys) is in
    λ i. (bytes_eq-Decides x y).0 here i ∷ same_names xs ys later i

items_made : (items : List PureItem) → list_all is_well_made_expr (flat_map exprs_of_item items) ≡ true → is_well_made_assertion items ≡ true
items_made [] made = refl
items_made (item ∷ items) made =
    let (here, later) = and_parts (list_all is_well_made_expr (exprs_of_item item)) (list_all is_well_made_expr (flat_map exprs_of_item items)) (sym (list_all-append is_well_made_expr (exprs_of_item item) (flat_map exprs_of_item items)) ∙ made) in
    (λ i. here i && is_well_made_assertion items) ∙ items_made items later

-- ---- signatures

turned : (x y : List ℕ) → bytes_eq x y ≡ false → bytes_eq y x ≡ false
turned x y differ = by (bytes_eq y x) refl
  where
    by : (b : Bool) → bytes_eq y x ≡ b → b ≡ false
    by true same = absurd (true≢false (sym ((bytes_eq-Decides x y).1 (sym ((bytes_eq-Decides y x).0 same))) ∙ differ))
    by false is = refl

past_one : (g : Signature) (gs : List Signature) (x : List ℕ) → bytes_eq x g.name ≡ false → find_signature (g ∷ gs) x ≡ find_signature gs x
past_one g gs x differs = ap (λ b. cond b (Some g) (find_signature gs x)) (turned x g.name differs)

past_cores : (ds : List PurePredDef) (x : List ℕ) → core_of x ≡ None → find_signature (core_predicates ++ map signature_of ds) x ≡ find_signature (map signature_of ds) x
past_cores ds x is =
    by (bytes_eq x (codes "prop")) (bytes_eq x (codes "cell")) (bytes_eq x (codes "shape")) (bytes_eq x (codes "bound")) (bytes_eq x (codes "dom")) (bytes_eq x (codes "proto")) (bytes_eq x (codes "gone")) refl refl refl refl refl refl refl is
  where
    by : (a b c d e f g : Bool) → bytes_eq x (codes "prop") ≡ a → bytes_eq x (codes "cell") ≡ b → bytes_eq x (codes "shape") ≡ c → bytes_eq x (codes "bound") ≡ d → bytes_eq x (codes "dom") ≡ e → bytes_eq x (codes "proto") ≡ f → bytes_eq x (codes "gone") ≡ g
        → cond a (Some Prop) (cond b (Some Cell) (cond c (Some Shape) (cond d (Some Bound) (cond e (Some Dom) (cond f (Some Proto) (cond g (Some Gone) None)))))) ≡ None
        → find_signature (core_predicates ++ map signature_of ds) x ≡ find_signature (map signature_of ds) x
    by true b c d e f g ha hb hc hd he hf hg none = no_value Prop (sym none)
    by false true c d e f g ha hb hc hd he hf hg none = no_value Cell (sym none)
    by false false true d e f g ha hb hc hd he hf hg none = no_value Shape (sym none)
    by false false false true e f g ha hb hc hd he hf hg none = no_value Bound (sym none)
    by false false false false true f g ha hb hc hd he hf hg none = no_value Dom (sym none)
    by false false false false false true g ha hb hc hd he hf hg none = no_value Proto (sym none)
    by false false false false false false true ha hb hc hd he hf hg none = no_value Gone (sym none)
    by false false false false false false false ha hb hc hd he hf hg none =
        let own : List Signature = map signature_of ds in
        let protos : List Signature = record { name = codes "proto"; ins = 1; outs = 1 } ∷ own in
        let doms : List Signature = record { name = codes "dom"; ins = 1; outs = 1 } ∷ protos in
        let bounds : List Signature = record { name = codes "bound"; ins = 1; outs = 1 } ∷ doms in
        let cells : List Signature = record { name = codes "cell"; ins = 2; outs = 1 } ∷ bounds in
        let gones : List Signature = record { name = codes "gone"; ins = 1; outs = 0 } ∷ cells in
        let shapes : List Signature = record { name = codes "shape"; ins = 1; outs = 1 } ∷ gones in
        past_one (record { name = codes "prop"; ins = 2; outs = 1 }) shapes x ha ∙ past_one (record { name = codes "shape"; ins = 1; outs = 1 }) gones x hc
        ∙ past_one (record { name = codes "gone"; ins = 1; outs = 0 }) cells x hg ∙ past_one (record { name = codes "cell"; ins = 2; outs = 1 }) bounds x hb
        ∙ past_one (record { name = codes "bound"; ins = 1; outs = 1 }) doms x hd ∙ past_one (record { name = codes "dom"; ins = 1; outs = 1 }) protos x he
        ∙ past_one (record { name = codes "proto"; ins = 1; outs = 1 }) own x hf

own_signature : (ds : List PurePredDef) (x : List ℕ) (d : PurePredDef) → find_pred ds x ≡ Some d → find_signature (map signature_of ds) x ≡ Some (signature_of d)
own_signature [] x d found = no_value d found
own_signature (e ∷ es) x d found = by (bytes_eq e.name x) (own_signature es x d) found
  where
    by : (b : Bool) → (find_pred es x ≡ Some d → find_signature (map signature_of es) x ≡ Some (signature_of d)) → cond b (Some e) (find_pred es x) ≡ Some d → cond b (Some (signature_of e)) (find_signature (map signature_of es) x) ≡ Some (signature_of d)
    by true later is = ap (λ (c : PurePredDef). Some (signature_of c)) (same_some is)
    by false later is = later is

module _ (p : PureParts) (memory : MemoryName) (made : is_well_made p ≡ true) (valid : IsValid p) (modes : HasModes p memory) where
  parts_made : (list_all is_well_made_proc p.procs ≡ true) × (list_all is_well_made_spec p.specs ≡ true) × (list_all is_well_made_pred p.preds ≡ true)
  parts_made =
      let (first, preds) = and_parts (list_all is_well_made_proc p.procs && list_all is_well_made_spec p.specs) (list_all is_well_made_pred p.preds) made in
      let (procs, specs) = and_parts (list_all is_well_made_proc p.procs) (list_all is_well_made_spec p.specs) first in
      (procs, specs, preds)

  spec_fault_free : (kind : InvalidKind) (i : ℕ) (s : PureSpec) → slice_get p.specs i ≡ Some s → (before : List ProgramItem) × (has_fault kind p before (a_spec s) ≡ false)
  spec_fault_free kind i s at = let (there, taken) = spec_stands p (length p.procs + i) s i at refl in (_, no_fault p valid kind (length p.procs + i) (a_spec s) _ there taken)

  spec_addable : (s : PureSpec) (f : List ℕ) → find_spec p.specs f ≡ Some s → IsAddableSpec memory s
  spec_addable s f found =
      let (named, (i, at)) = spec_found p.specs f s found in
      let spec_made = all_at is_well_made_spec p.specs i s at parts_made.1 in
      let assertions_made = (and_parts (are_program_names s.params && are_logical s.logicals) (list_all is_well_made_assertion (assertions_of s)) spec_made).1 in
      let (pre_made, rest_made) = and_parts (is_well_made_assertion s.pre) (list_all is_well_made_assertion (s.posts ++ s.errors)) assertions_made in
      let (posts_made, errors_made) = and_parts (list_all is_well_made_assertion s.posts) (list_all is_well_made_assertion s.errors) (sym (list_all-append is_well_made_assertion s.posts s.errors) ∙ rest_made) in
      let reads : spec_fault memory s ≡ None = sym (ap (option_and_then (spec_fault memory)) at) ∙ modes (Spec i) in
      let (pre_reads, rest_reads) = either_none (assertion_fault memory (precondition s) s.pre) (either (first_fault (assertion_fault memory (postcondition s)) s.posts) (first_fault (assertion_fault memory (postcondition s)) s.errors)) reads in
      let (posts_read, errors_read) = either_none (first_fault (assertion_fault memory (postcondition s)) s.posts) (first_fault (assertion_fault memory (postcondition s)) s.errors) rest_reads in
      let (before, free) = spec_fault_free Arity i s at in
      let right : some_misuses (predicates_of p) (map (piece_of_assertion s.logicals) (assertions_of s)) ≡ false = (either_false (has_other_params p (a_spec s)) (some_misuses (predicates_of p) (pieces_of p (a_spec s))) free).1 in
      let (pre_right, rest_right) = either_false (list_any (misuses (predicates_of p)) (piece_of_assertion s.logicals s.pre).used) (some_misuses (predicates_of p) (map (piece_of_assertion s.logicals) (s.posts ++ s.errors))) right in
      let (posts_right, errors_right) = either_false (some_misuses (predicates_of p) (map (piece_of_assertion s.logicals) s.posts)) (some_misuses (predicates_of p) (map (piece_of_assertion s.logicals) s.errors)) (sym (split s.posts s.errors s.logicals) ∙ rest_right) in
      record {
        pre = addable p valid memory (precondition s) s.logicals s.pre pre_made pre_reads pre_right;
        posts = all_addable p valid memory (postcondition s) s.logicals s.posts posts_made posts_read posts_right;
        errors = all_addable p valid memory (postcondition s) s.logicals s.errors errors_made errors_read errors_right;
      }
    where
      split : (xs ys : List (List PureItem)) (ls : List Param) → some_misuses (predicates_of p) (map (piece_of_assertion ls) (xs ++ ys)) ≡ (some_misuses (predicates_of p) (map (piece_of_assertion ls) xs) || some_misuses (predicates_of p) (map (piece_of_assertion ls) ys))
      split [] ys ls = refl
      split (x ∷ xs) ys ls =
          ap (λ b. list_any (misuses (predicates_of p)) (piece_of_assertion ls x).used || b) (split xs ys ls)
          ∙ associate (list_any (misuses (predicates_of p)) (piece_of_assertion ls x).used) (some_misuses (predicates_of p) (map (piece_of_assertion ls) xs)) (some_misuses (predicates_of p) (map (piece_of_assertion ls) ys))
        where
          associate : (a b c : Bool) → (a || (b || c)) ≡ ((a || b) || c)
          associate true b c = refl
          associate false b c = refl

  spec_proc : (s : PureSpec) (f : List ℕ) → find_spec p.specs f ≡ Some s → (q : PureProc) × ((find_proc p.procs f ≡ Some q) × (q.params ≡ param_names s.params))
  spec_proc s f found =
      let (named, (i, at)) = spec_found p.specs f s found in
      let (before, known) = spec_fault_free UnknownName i s at in
      let among : is_among (map (λ (q : PureProc). q.name) p.procs) s.name ≡ true = isnt_false (is_among (map (λ (q : PureProc). q.name) p.procs) s.name) (either_false (not (is_among (map (λ (q : PureProc). q.name) p.procs) s.name)) _ known).0 in
      let (q, there) = proc_there p.procs s.name among in
      let (others, fit) = spec_fault_free Arity i s at in
      let same : not (pointwise bytes_eq q.params (param_names s.params)) ≡ false = sym (ap (λ o. differs_from o s) there) ∙ (either_false (differs_from (find_proc p.procs s.name) s) _ fit).0 in
      (q, (ap (find_proc p.procs) (sym named) ∙ there, same_names q.params (param_names s.params) (isnt_false (pointwise bytes_eq q.params (param_names s.params)) same)))

  pred_at : (d : PurePredDef) (i : ℕ) → slice_get p.preds i ≡ Some d → Each (Each (MayAdd memory)) d.cases
  pred_at d i at =
      let pred_made = all_at is_well_made_pred p.preds i d at parts_made.2 in
      let cases_made = (and_parts (are_program_names d.ins && are_program_names d.outs && are_logical d.logicals) (list_all is_well_made_assertion d.cases) pred_made).1 in
      let reads : pred_fault memory d ≡ None = sym (ap (option_and_then (pred_fault memory)) at) ∙ modes (Pred i) in
      let (there, taken) = pred_stands p (length p.procs + length p.specs + i) d i at refl in
      let right = (either_false (has_other_params p (a_pred d)) (some_misuses (predicates_of p) (pieces_of p (a_pred d))) (no_fault p valid Arity (length p.procs + length p.specs + i) (a_pred d) _ there taken)).1 in
      all_cases p valid memory d d.cases cases_made reads right

  pred_addable : (d : PurePredDef) (x : List ℕ) → find_pred p.preds x ≡ Some d → Each (Each (MayAdd memory)) d.cases
  pred_addable d x found = let (named, (i, at)) = pred_found p.preds x d found in pred_at d i at

  -- a use of a predicate of the program has its numbers of ins and outs
  use_fits : (u : PurePredUse) → misuses (predicates_of p) u ≡ false → (d : PurePredDef) → find_pred p.preds u.pred ≡ Some d → core_of u.pred ≡ None → (length u.ins ≡ length d.ins) × (length u.outs ≡ length d.outs)
  use_fits u right d found none = fit_by p valid u u.pred (signature_of d) ((bytes_eq-Decides u.pred u.pred).1 refl) (past_cores p.preds u.pred none ∙ own_signature p.preds u.pred d found) right

  command_addable : (c : PureCommand) (s : Option PureSpec) → list_all is_well_made_expr (exprs_of c) ≡ true → command_fault memory s c ≡ None → list_any (misuses (predicates_of p)) (uses_of c) ≡ false → IsAddableCommand p memory c
  command_addable (assign x e) s made none right = tt
  command_addable (call x e es handler) s made none right = tt
  command_addable (act x a es) s made none right = tt
  command_addable (usym x) s made none right = tt
  command_addable (isym x k) s made none right = tt
  command_addable (ifgoto e i) s made none right = tt
  command_addable (return e) s made none right = tt
  command_addable (fail e) s made none right = tt
  command_addable (throw e) s made none right = tt
  command_addable vanish s made none right = tt
  command_addable (fold_use u) s made none right = (spelled (u.ins ++ u.outs) made, use_fits u (either_false (misuses (predicates_of p) u) false right).0)
  command_addable (unfold_use u) s made none right = (spelled (u.ins ++ u.outs) made, use_fits u (either_false (misuses (predicates_of p) u) false right).0)
  command_addable (assert_that items) s made none right = items_addable p valid memory (logic_command s) [] items (items_made items made) none right
  command_addable (loop_invariant xs ps items) s made none right = items_addable p valid memory (logic_command s) [] items (items_made items made) none right

  commands_addable : (q : PureProc) (f : List ℕ) (i : ℕ) (c : PureNumberedCommand) → find_proc p.procs f ≡ Some q → slice_get q.body i ≡ Some c → IsAddableCommand p memory c.command
  commands_addable q f i c found at =
      let (named, (j, there)) = proc_found p.procs f q found in
      let proc_made = all_at is_well_made_proc p.procs j q there parts_made.0 in
      let body_made = (and_parts (list_all is_program_name q.params) (list_all (λ (d : PureNumberedCommand). is_well_made_command d.command) q.body) proc_made).1 in
      let command_made = all_at (λ (d : PureNumberedCommand). is_well_made_command d.command) q.body i c at body_made in
      let reads : proc_fault p memory q ≡ None = sym (ap (option_and_then (proc_fault p memory)) there) ∙ modes (Proc j) in
      let (stands, taken) = proc_stands p j q there in
      let right = (either_false (has_other_params p (a_proc q)) (some_misuses (predicates_of p) (pieces_of p (a_proc q))) (no_fault p valid Arity j (a_proc q) _ stands taken)).1 in
      command_addable c.command (find_spec p.specs q.name) (and_parts (has_well_made_names c.command) (list_all is_well_made_expr (exprs_of c.command)) command_made).1
      (first_none_at (λ (d : PureNumberedCommand). command_fault memory (find_spec p.specs q.name) d.command) q.body i c at reads)
      (none_at (λ (piece : Piece). list_any (misuses (predicates_of p)) piece.used) (pieces_of p (a_proc q)) i (piece_of_command (logicals_of_spec (find_spec p.specs q.name)) c.command)
      (at_map (λ (d : PureNumberedCommand). piece_of_command (logicals_of_spec (find_spec p.specs q.name)) d.command) q.body i c at) right)

pub programs_are_addable : ProgramsAreAddable
programs_are_addable p memory made valid modes = record {
  procs = spec_proc p memory made valid modes;
  specs = spec_addable p memory made valid modes;
  preds = pred_addable p memory made valid modes;
  cases = each_by_place (λ d. Each (Each (MayAdd memory)) d.cases) p.preds (λ i d at. pred_at p memory made valid modes d i at);
  commands = commands_addable p memory made valid modes;
}
