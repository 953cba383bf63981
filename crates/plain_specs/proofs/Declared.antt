-- The names of a postcondition that can be read: each is known at first, or is a logical variable that is declared.
use Rattle.std.proofs.Common.{◌≡◌, ◌⊎◌, ⊎_elim, inl, inr, ℕ, zero, suc, ◌+◌, List, [], ◌∷◌, ◌++◌, map, length, Bool, true, false, not, ◌||◌, Some, None, slice_get, refl, sym, ap, ◌∙◌, true≢false}
use Rattle.std.specs.List.{list_all, list_any, flat_map}
use Rattle.std.specs.Str.{bytes_eq}
use Rattle.std.proofs.lemmas.Bool.{and_parts}
use Rattle.std.proofs.lemmas.List.Folds.{list_any-append}
use Rattle.std.proofs.lemmas.Slice.Eq.{bytes_eq-Decides}
use Rattle.gil_values.specs.declared.operators.BinOp.{BinOp}
use Rattle.gil_syntax.specs.declared.validity.InvalidKind.TheVariants.{UnknownName}
use Rattle.gil_syntax.specs.Programs.{find_spec}
use Rattle.gil_syntax.specs.Pure.{PureExpr, literal, name, logical, list_of, unary_of, binary_of, PureItem, pure, uses, PureSpec, PureParts}
use Rattle.gil_syntax.specs.Subexpressions.{subexpressions, own_names, names_of, own_logicals, logicals_of, exprs_of_item, assertions_of}
use Rattle.gil_syntax.specs.Valid.{is_among, param_names, a_spec, piece_of_assertion, names_undeclared, uses_unknown, predicates_of, some_names_nothing, pieces_of, has_fault_if_there, fault_at, IsValid}
use Rattle.gil_syntax.specs.WellMade.{has_hash, is_well_made_node, is_well_made_expr, is_well_made_assertion, is_well_made}
use Rattle.gil_syntax.proofs.ItemLemmas.{spec_stands}
use Rattle.mem_model.specs.declared.keys.MemoryName.{MemoryName}
use Rattle.assert_logic.specs.declared.checking.ModeKind.{ModeKind}
use Rattle.assert_logic.specs.declared.checking.ModeKind.TheVariants.{In, Out, Core as OfMemory}
use Rattle.assert_logic.specs.Modes.{Scope, precondition, postcondition, may_become_known, outs_fit, gives_value, either, fault_if, first_fault, is_foreign, item_fault, items_fault, assertion_fault, known_at_first, known_after, known_beside, HasModes}
use Rattle.assert_logic.specs.Names.{Known, knows_all, named_among, named_by_item, named_by_items}
use Rattle.checked_runs.proofs.Readable.{either_none, first_fault_at}
use Rattle.checked_runs.proofs.Stores.{good_spec, spec_at, all_at, one_of_two}
use Rattle.plain_specs.proofs.Frames.{same_some, no_value}

or_left : (a b : Bool) → a ≡ true → (a || b) ≡ true
or_left true b is = refl
or_left false b is = absurd (true≢false (sym is))

or_right : (a b : Bool) → b ≡ true → (a || b) ≡ true
or_right true b is = refl
or_right false b is = is

or_false : (a b : Bool) → (a || b) ≡ false → (a ≡ false) × (b ≡ false)
or_false true b is = absurd (true≢false is)
or_false false b is = (refl, is)

not_false : (b : Bool) → not b ≡ false → b ≡ true
not_false true is = refl
not_false false is = absurd (true≢false is)

not_true : (b : Bool) → not b ≡ true → b ≡ false
not_true true is = absurd (true≢false (sym is))
not_true false is = refl

not_faulty : (b : Bool) (why : ModeKind) → fault_if (not b) why ≡ None → b ≡ true
not_faulty true why is = refl
not_faulty false why is = no_value why (sym is)

-- ---- one expression

module _ (x : List ℕ) where
  -- a name is a logical variable, or has no '#'
  abbrev IsRead : List PureExpr → Type 0
  IsRead ns = (is_among (flat_map own_logicals ns) x ≡ true) ⊎ (has_hash x ≡ false)

  here_or : (y : List ℕ) (ys : List (List ℕ)) → is_among (y ∷ ys) x ≡ true → (x ≡ y) ⊎ (is_among ys x ≡ true)
  here_or y ys is = ⊎_elim (λ same. inl ((bytes_eq-Decides x y).0 same)) inr (one_of_two (bytes_eq x y) (is_among ys x) is)

  node_read : (ns : List PureExpr) → list_all is_well_made_node ns ≡ true → is_among (flat_map own_names ns) x ≡ true → IsRead ns
  node_read [] made is = absurd (true≢false (sym is))
  node_read (n ∷ ns) made is = let (here, there) = and_parts (is_well_made_node n) (list_all is_well_made_node ns) made in by n here is (node_read ns there)
    where
      by : (d : PureExpr) → is_well_made_node d ≡ true → is_among (own_names d ++ flat_map own_names ns) x ≡ true → (is_among (flat_map own_names ns) x ≡ true → IsRead ns)
          → (is_among (own_logicals d ++ flat_map own_logicals ns) x ≡ true) ⊎ (has_hash x ≡ false)
      by (literal v) here among later = later among
      by (name y) here among later =
          ⊎_elim (λ same. inr (ap has_hash same ∙ not_true (has_hash y) here)) later (here_or y (flat_map own_names ns) among)
      by (logical y) here among later =
          ⊎_elim (λ same. inl (or_left (bytes_eq x y) (is_among (flat_map own_logicals ns) x) ((bytes_eq-Decides x y).1 same)))
          (λ rest. ⊎_elim (λ in_rest. inl (or_right (bytes_eq x y) (is_among (flat_map own_logicals ns) x) in_rest)) inr (later rest))
          (here_or y (flat_map own_names ns) among)
      by (list_of es) here among later = later among
      by (unary_of op e) here among later = later among
      by (binary_of op d e) here among later = later among

  among_known : (known : Known) (xs : List (List ℕ)) → list_all known xs ≡ true → is_among xs x ≡ true → known x ≡ true
  among_known known [] all is = absurd (true≢false (sym is))
  among_known known (y ∷ ys) all is =
      let (here, there) = and_parts (known y) (list_all known ys) all in
      ⊎_elim (λ same. ap known same ∙ here) (among_known known ys there) (here_or y ys is)

  exprs_known : (known : Known) (es : List PureExpr) → list_all (knows_all known) es ≡ true → named_among es x ≡ true → known x ≡ true
  exprs_known known [] all is = absurd (true≢false (sym is))
  exprs_known known (e ∷ es) all is =
      let (here, there) = and_parts (knows_all known e) (list_all (knows_all known) es) all in
      ⊎_elim (among_known known (names_of e) here) (exprs_known known es there) (one_of_two (is_among (names_of e) x) (named_among es x) is)

  -- ---- names without '#'

  module _ (plain : has_hash x ≡ false) (s : PureSpec) where
    abbrev scope : Scope
    scope = postcondition s

    -- a single name that may become known is none of these
    no_single : (out : PureExpr) → is_well_made_expr out ≡ true → may_become_known scope out ≡ true → ¬ (is_among (names_of out) x ≡ true)
    no_single (logical y) made may is =
        ⊎_elim (λ same. true≢false (sym (and_parts (has_hash y) true made).0 ∙ ap has_hash (sym same) ∙ plain)) (λ none. true≢false (sym none)) (here_or y [] is)
    no_single (name y) made may is = true≢false (sym may)
    no_single (literal v) made may is = true≢false (sym may)
    no_single (list_of es) made may is = true≢false (sym may)
    no_single (unary_of op e) made may is = true≢false (sym may)
    no_single (binary_of op d e) made may is = true≢false (sym may)

    outs_known : (known : Known) (before outs : List PureExpr) → list_all is_well_made_expr outs ≡ true → outs_fit scope known before outs ≡ true → (named_among before x ≡ true → known x ≡ true) → named_among outs x ≡ true → known x ≡ true
    outs_known known before [] made fit earlier is = absurd (true≢false (sym is))
    outs_known known before (out ∷ outs) made fit earlier is =
        let (made_here, made_there) = and_parts (is_well_made_expr out) (list_all is_well_made_expr outs) made in
        let (fit_here, fit_there) = and_parts (knows_all (known_beside known before) out || may_become_known scope out) (outs_fit scope known (before ++ out ∷ []) outs) fit in
        ⊎_elim (this made_here fit_here) (outs_known known (before ++ out ∷ []) outs made_there fit_there (next made_here fit_here)) (one_of_two (is_among (names_of out) x) (named_among outs x) is)
      where
        this : is_well_made_expr out ≡ true → (knows_all (known_beside known before) out || may_become_known scope out) ≡ true → is_among (names_of out) x ≡ true → known x ≡ true
        this made_out fit_out named =
            ⊎_elim (λ knows. ⊎_elim earlier (λ is_known. is_known) (one_of_two (named_among before x) (known x) (among_known (known_beside known before) (names_of out) knows named)))
            (λ may. absurd (no_single out made_out may named)) (one_of_two (knows_all (known_beside known before) out) (may_become_known scope out) fit_out)

        next : is_well_made_expr out ≡ true → (knows_all (known_beside known before) out || may_become_known scope out) ≡ true → named_among (before ++ out ∷ []) x ≡ true → known x ≡ true
        next made_out fit_out is_in =
            ⊎_elim earlier (λ last. ⊎_elim (this made_out fit_out) (λ none. absurd (true≢false (sym none))) (one_of_two (is_among (names_of out) x) false last))
            (one_of_two (named_among before x) (named_among (out ∷ []) x) (sym (list_any-append (λ e. is_among (names_of e) x) before (out ∷ [])) ∙ is_in))

    equation_known : (known : Known) (op : BinOp) (d e : PureExpr) → is_well_made_expr (binary_of op d e) ≡ true → may_become_known scope d ≡ true → knows_all known e ≡ true → is_among (names_of (binary_of op d e)) x ≡ true → known x ≡ true
    equation_known known op (logical y) e made may knows is =
        ⊎_elim (λ same. absurd (true≢false (sym (and_parts (has_hash y) (is_well_made_expr e) made).0 ∙ ap has_hash (sym same) ∙ plain))) (among_known known (names_of e) knows) (here_or y (names_of e) is)
    equation_known known op (name y) e made may knows is = absurd (true≢false (sym may))
    equation_known known op (literal v) e made may knows is = absurd (true≢false (sym may))
    equation_known known op (list_of es) e made may knows is = absurd (true≢false (sym may))
    equation_known known op (unary_of o d) e made may knows is = absurd (true≢false (sym may))
    equation_known known op (binary_of o c d) e made may knows is = absurd (true≢false (sym may))

    given_known : (known : Known) (e : PureExpr) → is_well_made_expr e ≡ true → gives_value scope known e ≡ true → is_among (names_of e) x ≡ true → known x ≡ true
    given_known known (binary_of BinOp.Equal d e) made gives is = let (may, knows) = and_parts (may_become_known scope d) (knows_all known e) gives in equation_known known BinOp.Equal d e made may knows is
    given_known known _ made gives is = absurd (true≢false (sym gives))

    item_known : (known : Known) (item : PureItem) (memory : MemoryName) → list_all is_well_made_expr (exprs_of_item item) ≡ true → item_fault memory scope known item ≡ None → named_by_item item x ≡ true → known x ≡ true
    item_known known (pure e) memory made reads is =
        ⊎_elim (λ knows. among_known known (names_of e) knows is) (λ gives. given_known known e (and_parts (is_well_made_expr e) true made).0 gives is)
        (one_of_two (knows_all known e) (gives_value scope known e) (not_faulty (knows_all known e || gives_value scope known e) In reads))
    item_known known (uses u) memory made reads is =
        let (ins, rest) = either_none (fault_if (not (list_all (knows_all known) u.ins)) In) (either (fault_if (not (outs_fit scope known [] u.outs)) Out) (fault_if (is_foreign memory u.pred) OfMemory)) reads in
        let (outs, foreign) = either_none (fault_if (not (outs_fit scope known [] u.outs)) Out) (fault_if (is_foreign memory u.pred) OfMemory) rest in
        ⊎_elim (exprs_known known u.ins (not_faulty (list_all (knows_all known) u.ins) In ins))
        (outs_known known [] u.outs (made_outs u.ins u.outs made) (not_faulty (outs_fit scope known [] u.outs) Out outs) (λ none. absurd (true≢false (sym none))))
        (one_of_two (named_among u.ins x) (named_among u.outs x) is)
      where
        made_outs : (es ds : List PureExpr) → list_all is_well_made_expr (es ++ ds) ≡ true → list_all is_well_made_expr ds ≡ true
        made_outs [] ds all = all
        made_outs (e ∷ es) ds all = made_outs es ds (and_parts (is_well_made_expr e) (list_all is_well_made_expr (es ++ ds)) all).1

    pub items_known : (memory : MemoryName) (before items : List PureItem) → is_well_made_assertion items ≡ true → items_fault memory scope before items ≡ None → (named_by_items before x ≡ true → known_at_first scope x ≡ true) → named_by_items items x ≡ true → known_at_first scope x ≡ true
    items_known memory before [] made reads earlier is = absurd (true≢false (sym is))
    items_known memory before (item ∷ items) made reads earlier is =
        let (made_here, made_there) = and_parts (list_all is_well_made_expr (exprs_of_item item)) (is_well_made_assertion items) made in
        let (reads_here, reads_there) = either_none (item_fault memory scope (known_after (known_at_first scope) before) item) (items_fault memory scope (before ++ item ∷ []) items) reads in
        ⊎_elim (this made_here reads_here) (items_known memory (before ++ item ∷ []) items made_there reads_there (next made_here reads_here)) (one_of_two (named_by_item item x) (named_by_items items x) is)
      where
        this : list_all is_well_made_expr (exprs_of_item item) ≡ true → item_fault memory scope (known_after (known_at_first scope) before) item ≡ None → named_by_item item x ≡ true → known_at_first scope x ≡ true
        this made_item reads_item named =
            ⊎_elim earlier (λ first. first) (one_of_two (named_by_items before x) (known_at_first scope x) (item_known (known_after (known_at_first scope) before) item memory made_item reads_item named))

        next : list_all is_well_made_expr (exprs_of_item item) ≡ true → item_fault memory scope (known_after (known_at_first scope) before) item ≡ None → named_by_items (before ++ item ∷ []) x ≡ true → known_at_first scope x ≡ true
        next made_item reads_item is_in =
            ⊎_elim earlier (λ last. ⊎_elim (this made_item reads_item) (λ none. absurd (true≢false (sym none))) (one_of_two (named_by_item item x) false last))
            (one_of_two (named_by_items before x) (named_by_items (item ∷ []) x) (sym (list_any-append (λ i. named_by_item i x) before (item ∷ [])) ∙ is_in))

  -- ---- names with '#' are declared

  declared_in : (declared : List (List ℕ)) (xs : List (List ℕ)) → list_any (λ y. not (is_among declared y)) xs ≡ false → is_among xs x ≡ true → is_among declared x ≡ true
  declared_in declared [] none is = absurd (true≢false (sym is))
  declared_in declared (y ∷ ys) none is =
      let (here, there) = or_false (not (is_among declared y)) (list_any (λ z. not (is_among declared z)) ys) none in
      ⊎_elim (λ same. ap (is_among declared) same ∙ not_false (is_among declared y) here) (declared_in declared ys there) (here_or y ys is)

  abbrev undeclared : List (List ℕ) → List PureExpr → Bool
  undeclared declared es = list_any (λ e. list_any (λ y. not (is_among declared y)) (logicals_of e)) es

  exprs_declared : (declared : List (List ℕ)) (es : List PureExpr) → list_all is_well_made_expr es ≡ true → undeclared declared es ≡ false → named_among es x ≡ true → (is_among declared x ≡ true) ⊎ (has_hash x ≡ false)
  exprs_declared declared [] made none is = absurd (true≢false (sym is))
  exprs_declared declared (e ∷ es) made none is =
      let (made_here, made_there) = and_parts (is_well_made_expr e) (list_all is_well_made_expr es) made in
      let (here, there) = or_false (list_any (λ y. not (is_among declared y)) (logicals_of e)) (undeclared declared es) none in
      ⊎_elim (λ named. ⊎_elim (λ is_logical. inl (declared_in declared (logicals_of e) here is_logical)) inr (node_read (subexpressions e) made_here named))
      (exprs_declared declared es made_there there) (one_of_two (is_among (names_of e) x) (named_among es x) is)

  item_exprs : (item : PureItem) → named_by_item item x ≡ true → named_among (exprs_of_item item) x ≡ true
  item_exprs (pure e) is = or_left (is_among (names_of e) x) false is
  item_exprs (uses u) is = list_any-append (λ e. is_among (names_of e) x) u.ins u.outs ∙ is

  items_declared : (declared : List (List ℕ)) (items : List PureItem) → is_well_made_assertion items ≡ true → undeclared declared (flat_map exprs_of_item items) ≡ false → named_by_items items x ≡ true → (is_among declared x ≡ true) ⊎ (has_hash x ≡ false)
  items_declared declared [] made none is = absurd (true≢false (sym is))
  items_declared declared (item ∷ items) made none is =
      let (made_here, made_there) = and_parts (list_all is_well_made_expr (exprs_of_item item)) (is_well_made_assertion items) made in
      let (here, there) = or_false (undeclared declared (exprs_of_item item)) (undeclared declared (flat_map exprs_of_item items))
      (sym (list_any-append (λ e. list_any (λ y. not (is_among declared y)) (logicals_of e)) (exprs_of_item item) (flat_map exprs_of_item items)) ∙ none) in
      ⊎_elim (λ named. exprs_declared declared (exprs_of_item item) made_here here (item_exprs item named)) (items_declared declared items made_there there) (one_of_two (named_by_item item x) (named_by_items items x) is)

-- ---- specifications of a program

none_at : {X : Type 0} (f : X → Bool) (xs : List X) (i : ℕ) (x : X) → slice_get xs i ≡ Some x → list_any f xs ≡ false → f x ≡ false
none_at f [] i x at none = no_value x at
none_at f (y ∷ ys) zero x at none = ap f (sym (same_some at)) ∙ (or_false (f y) (list_any f ys) none).0
none_at f (y ∷ ys) (suc i) x at none = none_at f ys i x at (or_false (f y) (list_any f ys) none).1

at_map : {X Y : Type 0} (f : X → Y) (xs : List X) (i : ℕ) (x : X) → slice_get xs i ≡ Some x → slice_get (map f xs) i ≡ Some (f x)
at_map f [] i x at = no_value x at
at_map f (y ∷ ys) zero x at = ap (λ z. Some (f z)) (same_some at)
at_map f (y ∷ ys) (suc i) x at = at_map f ys i x at

isnt_true : (b : Bool) → ¬ (b ≡ true) → b ≡ false
isnt_true true isnt = absurd (isnt refl)
isnt_true false isnt = refl

module _ (p : PureParts) (memory : MemoryName) (made : is_well_made p ≡ true) (valid : IsValid p) (modes : HasModes p memory) (s : PureSpec) (found : find_spec p.specs s.name ≡ Some s) where
  assertions_declared : (i : ℕ) (items : List PureItem) → slice_get (assertions_of s) i ≡ Some items → undeclared [] (param_names s.logicals) (flat_map exprs_of_item items) ≡ false
  assertions_declared i items at =
      let (named, (j, there)) = spec_at p.specs s.name s found in
      let (stands, taken) = spec_stands p (length p.procs + j) s j there refl in
      let free = (λ k. has_fault_if_there UnknownName p (sym taken k) (sym stands k)) ∙ isnt_true (fault_at p UnknownName (length p.procs + j)) (valid UnknownName (length p.procs + j)) in
      let pieces : some_names_nothing (predicates_of p) (pieces_of p (a_spec s)) ≡ false = (or_false _ (some_names_nothing (predicates_of p) (pieces_of p (a_spec s))) free).1 in
      (or_false (names_undeclared (piece_of_assertion s.logicals items)) (uses_unknown (predicates_of p) (piece_of_assertion s.logicals items))
      (none_at (λ c. names_undeclared c || uses_unknown (predicates_of p) c) (pieces_of p (a_spec s)) i (piece_of_assertion s.logicals items) (at_map (piece_of_assertion s.logicals) (assertions_of s) i items at) pieces)).0

  -- A postcondition, which can be read, and whose names are known at first or declared.
  pub record IsReadable (items : List PureItem) : Type 0 where
    pub reads : assertion_fault memory (postcondition s) items ≡ None
    pub names : (x : List ℕ) → named_by_items items x ≡ true → (known_at_first (postcondition s) x ≡ true) ⊎ (is_among (param_names s.logicals) x ≡ true)

  readable : (i : ℕ) (items : List PureItem) → slice_get (assertions_of s) i ≡ Some items → assertion_fault memory (postcondition s) items ≡ None → IsReadable items
  readable i items at reads =
      let items_made = all_at is_well_made_assertion (assertions_of s) i items at (good_spec p memory s.name s made valid modes found).made in
      record {
        reads = reads;
        names = λ x named.
            ⊎_elim inr (λ plain. inl (items_known x plain s memory [] items items_made reads (λ none. absurd (true≢false (sym none))) named))
            (items_declared x (param_names s.logicals) items items_made (assertions_declared i items at) named);
      }

  at_left : {X : Type 0} (xs ys : List X) (i : ℕ) (x : X) → slice_get xs i ≡ Some x → slice_get (xs ++ ys) i ≡ Some x
  at_left [] ys i x at = no_value x at
  at_left (z ∷ zs) ys zero x at = at
  at_left (z ∷ zs) ys (suc i) x at = at_left zs ys i x at

  at_right : {X : Type 0} (xs ys : List X) (i : ℕ) (x : X) → slice_get ys i ≡ Some x → (j : ℕ) × (slice_get (xs ++ ys) j ≡ Some x)
  at_right [] ys i x at = (i, at)
  at_right (z ∷ zs) ys i x at = let (j, there) = at_right zs ys i x at in (suc j, there)

  reads_all : (first_fault (assertion_fault memory (postcondition s)) s.posts ≡ None) × (first_fault (assertion_fault memory (postcondition s)) s.errors ≡ None)
  reads_all =
      either_none (first_fault (assertion_fault memory (postcondition s)) s.posts) (first_fault (assertion_fault memory (postcondition s)) s.errors)
      (either_none (assertion_fault memory (precondition s) s.pre) _ (good_spec p memory s.name s made valid modes found).reads).1

  pub post_readable : (i : ℕ) (items : List PureItem) → slice_get s.posts i ≡ Some items → IsReadable items
  post_readable i items at = readable (suc i) items (at_left s.posts s.errors i items at) (first_fault_at (assertion_fault memory (postcondition s)) s.posts i items reads_all.0 at)

  pub error_readable : (i : ℕ) (items : List PureItem) → slice_get s.errors i ≡ Some items → IsReadable items
  error_readable i items at = let (j, there) = at_right s.posts s.errors i items at in readable (suc j) items there (first_fault_at (assertion_fault memory (postcondition s)) s.errors i items reads_all.1 at)
