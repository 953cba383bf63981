-- What is provided as inference goes on.
use Rattle.std.proofs.Common.{◌≡◌, ◌⊎◌, ⊎_elim, inl, inr, ℕ, zero, suc, ◌+◌, ◌≤◌, List, [], ◌∷◌, ◌++◌, length, slice_get, Bool, true, false, Option, Some, None, IsSome, refl, sym, ap, subst, ◌∙◌, true≢false, arith}
use Rattle.std.specs.FinMap.{empty, entries}
use Rattle.std.specs.Option.{option_map, option_or}
use Rattle.std.proofs.lemmas.List.{length-map}
use Rattle.std.proofs.lemmas.Option.{slice_get_within}
use Rattle.gil_values.specs.Pure.{PureValue}
use Rattle.gil_syntax.specs.Programs.{find_proc}
use Rattle.gil_syntax.specs.Pure.{PureProc, PureParts}
use Rattle.gil_machine.specs.Run.{IsProperStart}
use Rattle.mem_model.specs.declared.keys.MemoryName.{MemoryName}
use Rattle.mem_model.specs.Actions.{Actions}
use Rattle.mem_model.specs.Heaps.{Heap, IsPartOf}
use Rattle.mem_model.proofs.Parts.{parts_are_heaps}
use Rattle.assert_logic.proofs.UnionLaws.{union_after_none}
use Rattle.checked_runs.proofs.Parts.{union_parts}
use Rattle.inferred_specs.specs.Inferred.{PureFound, SomeIsMet, Covers}
use Rattle.pure_terms.specs.declared.queries.Query.{Query}
use Rattle.pure_terms.specs.declared.variables.Sort.{Sort}
use Rattle.pure_terms.specs.Kinds.{has_sort}
use Rattle.pure_terms.specs.Pure.{PureAtom}
use Rattle.pure_terms.proofs.VariableLaws.{slice_get-append}
use Rattle.sym_model.specs.Lists.{Each, OneOf}
use Rattle.sym_model.proofs.ListLaws.{same_some, not_none, each_to, one_left, one_right, one_parts, one_with}
use Rattle.sym_paths.specs.Pure.{PureEnd, PurePath}
use Rattle.bi_beginnings.specs.Beginnings.{any_for_each, first_beginning, PureBeginning, BeginsWith, CoversBeginning}
use Rattle.bi_specifications.proofs.Valuing.{have_from}
use Rattle.biabduce.specs.Covering.{PureRun, IsWanted, IsAwaited, IsCovered, IsProvided, Keeps, CoversEnd, CoversStart, CoversAwaited, CoversAll}
use Rattle.biabduce.specs.Sound.{PureAsked, PureInference, first_asked}
use Rattle.biabduce.specs.View.{asked_view}

some_asked : (o : Option PureAsked) (x : PureAsked) → IsSome (first_asked o x)
some_asked None x = refl
some_asked (Some kept) x = refl

pub none_left : {A B : Type 0} (f : A → B) (o : Option A) → o ≡ None → ¬ (IsSome (option_map f o))
none_left f o none some = true≢false (sym (subst (λ (x : Option _). IsSome (option_map f x)) none some))

module _ (p : PureParts) (memory : MemoryName) (m : Actions) (q : PureProc) (n : ℕ) where
  still_met : (founds more : List PureFound) (is_cut : Bool) (args : List PureValue) (h : Heap) → SomeIsMet p memory m q.name founds is_cut args h → SomeIsMet p memory m q.name (founds ++ more) is_cut args h
  still_met founds more is_cut args h some = record {
    number = some.number;
    found = some.found;
    is_found = slice_get-append founds more some.number (slice_get_within founds some.number some.found some.is_found) ∙ some.is_found;
    as_marked = some.as_marked;
    met = some.met;
  }

  pub still_covered : (founds more : List PureFound) (r : PureRun) → IsCovered p memory m q n founds r → IsCovered p memory m q n (founds ++ more) r
  still_covered founds more r covered = record {
    finished = λ finishes. still_met founds more false r.args r.heap (covered.finished finishes);
    cut_off = λ off. still_met founds more true r.args r.heap (covered.cut_off off);
  }

  abbrev Provided : PureInference → PureRun → Type 0
  Provided = IsProvided p memory m q n

  -- ---- what becomes of inference

  pub keeps_same : (i j : PureInference) → j ≡ i → Keeps p memory m q n i j
  keeps_same i j is r provided = subst (λ k. Provided k r) (sym is) provided

  pub keeps_begun : (i j : PureInference) (more : List PureBeginning) → j ≡ record i { left = i.left ++ more } → Keeps p memory m q n i j
  keeps_begun i j more is r provided =
      subst (λ k. Provided k r) (sym is)
      (⊎_elim inl (λ other. inr (⊎_elim (λ awaited. inl (one_left (IsAwaited p memory m q n r) i.left more awaited)) inr other)) provided)

  pub begun_awaits : (i j : PureInference) (more : List PureBeginning) (r : PureRun) → j ≡ record i { left = i.left ++ more } → OneOf (IsAwaited p memory m q n r) more → Provided j r
  begun_awaits i j more r is one = subst (λ k. Provided k r) (sym is) (inr (inl (one_right (IsAwaited p memory m q n r) i.left more one)))

  pub keeps_found : (i j : PureInference) (found : PureFound) → j ≡ record i { founds = i.founds ++ found ∷ [] } → Keeps p memory m q n i j
  keeps_found i j found is r provided =
      subst (λ k. Provided k r) (sym is)
      (⊎_elim inl (λ other. inr (⊎_elim inl (λ covered. inr (still_covered i.founds (found ∷ []) r covered)) other)) provided)

  pub found_covers : (i j : PureInference) (found : PureFound) (r : PureRun) → j ≡ record i { founds = i.founds ++ found ∷ [] } → IsCovered p memory m q n (i.founds ++ found ∷ []) r → Provided j r
  found_covers i j found r is covered = subst (λ k. Provided k r) (sym is) (inr (inr covered))

  pub keeps_left : (i j : PureInference) (x : PureAsked) → j ≡ record i { undecided = first_asked i.undecided x } → Keeps p memory m q n i j
  keeps_left i j x is r provided = subst (λ k. Provided k r) (sym is) (⊎_elim (λ some. inl (some_asked i.undecided x)) inr provided)

  pub left_some : (i j : PureInference) (x : PureAsked) → j ≡ record i { undecided = first_asked i.undecided x } → IsSome j.undecided
  left_some i j x is = subst (λ (k : PureInference). IsSome k.undecided) (sym is) (some_asked i.undecided x)

  any_some : {A : Type 0} (o later : Option A) → IsSome o ⊎ IsSome later → IsSome (option_or o later)
  any_some (Some x) later is = refl
  any_some None later (inl some) = absurd (true≢false (sym some))
  any_some None later (inr some) = some

  seen_some : (o : Option Query) → IsSome o → IsSome (option_map asked_view o)
  seen_some (Some x) some = refl
  seen_some None some = some

  pub keeps_any : (i j : PureInference) (o : Option Query) → j ≡ record i { undecided = option_or i.undecided (option_map asked_view o) } → Keeps p memory m q n i j
  keeps_any i j o is r provided =
      subst (λ k. Provided k r) (sym is) (⊎_elim (λ some. inl (any_some i.undecided (option_map asked_view o) (inl some))) inr provided)

  pub any_left : (i j : PureInference) (o : Option Query) → j ≡ record i { undecided = option_or i.undecided (option_map asked_view o) } → IsSome o → IsSome j.undecided
  any_left i j o is some = subst (λ (k : PureInference). IsSome k.undecided) (sym is) (any_some i.undecided (option_map asked_view o) (inr (seen_some o some)))

  -- ---- ends and starts

  pub end_same : (b : PureBeginning) (vars wars : List Sort) (conds donds : List PureAtom) (o u : Option PureEnd) (i : PureInference) → vars ≡ wars → conds ≡ donds → o ≡ u
      → CoversEnd p memory m q n b vars conds o i → CoversEnd p memory m q n b wars donds u i
  end_same b vars wars conds donds o u i same_vars same_conds same_end covers =
      subst (λ x. CoversEnd p memory m q n b x donds u i) same_vars
      (subst (λ x. CoversEnd p memory m q n b vars x u i) same_conds (subst (λ x. CoversEnd p memory m q n b vars conds x i) same_end covers))

  pub still_started : {S : Type 0} (stands : S → List PureValue → Heap → Type 0) (b : PureBeginning) (i j : PureInference) (starts : List (PurePath S)) → Keeps p memory m q n i j → Each (CoversStart p memory m q n stands b i) starts
      → Each (CoversStart p memory m q n stands b j) starts
  still_started stands b i j starts keeps all = each_to (CoversStart p memory m q n stands b i) (CoversStart p memory m q n stands b j) starts (λ s covers r wanted a begins. keeps r (covers r wanted a begins)) all

  -- a beginning whose starts are covered, or for which a list was left undecided
  pub begun_covers : {S : Type 0} (stands : S → List PureValue → Heap → Type 0) (b : PureBeginning) (U : Type 0) (i j : PureInference) (starts : List (PurePath S)) → CoversBeginning memory stands b U starts
      → (U → IsSome i.undecided) → Keeps p memory m q n i j → Each (CoversStart p memory m q n stands b j) starts → CoversAwaited p memory m q n b j
  begun_covers stands b U i j starts begins left keeps covers r wanted a =
      ⊎_elim (λ some. keeps r (inl (left some)))
      (λ one. one_with (CoversStart p memory m q n stands b j) (BeginsWith stands b.vars a.values a.own) starts covers one (λ s covered begins_there. covered r wanted a begins_there))
      (begins a.values a.own a.meets a.uses (union_parts memory r.heap a.own a.rest a.union wanted.proper.heap).0)

  -- ---- the first beginning

  any_sort : (params : List (List ℕ)) (i : ℕ) (s : Sort) → slice_get (any_for_each params) i ≡ Some s → s ≡ Sort.Any
  any_sort [] i s at = not_none at
  any_sort (x ∷ params) zero s at = sym (same_some at)
  any_sort (x ∷ params) (suc i) s at = any_sort params i s at

  pub first_awaits : (found : find_proc p.procs q.name ≡ Some q) (r : PureRun) → IsWanted p memory m q n r → length (entries r.heap) ≤ n → IsAwaited p memory m q n r (first_beginning q)
  first_awaits found r wanted few =
      let same : wanted.proper.procedure.0 ≡ q = same_some (sym wanted.proper.procedure.1.0 ∙ found) in
      let many : length q.params ≡ length r.args = ap (λ (x : PureProc). length x.params) (sym same) ∙ wanted.proper.procedure.1.1 in
      let as_many : length (any_for_each q.params) ≡ length q.params = length-map q.params (λ x. Sort.Any) in
      record {
        values = r.args;
        meets = record {
          proper = record {
            one_each = sym (as_many ∙ many);
            sorts = λ x s w in_table at. subst (λ k. has_sort k w ≡ true) (sym (any_sort q.params x s in_table)) refl;
            fresh = λ x y k w in_table at less at_y. absurd (not_any (any_sort q.params x Sort.Fresh in_table));
          };
          true_there = refl;
        };
        arguments = have_from r.args r.args 0 (any_for_each q.params) (sym (as_many ∙ many)) (λ i w at. let here : 0 + i ≡ i = omega arith in ap (slice_get r.args) here ∙ at);
        below = wanted.proper.arguments_below;
        own = empty;
        rest = r.heap;
        union = union_after_none r.heap;
        uses = refl;
        few = omega (arith, few);
      }
    where
      not_any : ¬ (Sort.Fresh ≡ Sort.Any)
      not_any same = absurd (cc)

  pub first_provided : (found : find_proc p.procs q.name ≡ Some q) (i : PureInference) → i ≡ record { left = first_beginning q ∷ []; founds = []; undecided = None } → (r : PureRun) → IsWanted p memory m q n r
      → length (entries r.heap) ≤ n → Provided i r
  first_provided found i is r wanted few = subst (λ k. Provided k r) (sym is) (inr (inl (inl (first_awaits found r wanted few))))

  -- ---- the work list

  -- with the last beginning taken out: it awaits the run, or the run is still provided for
  pub taken : (i : PureInference) (rest : List PureBeginning) (b : PureBeginning) (r : PureRun) → i.left ≡ rest ++ b ∷ [] → Provided i r → IsAwaited p memory m q n r b ⊎ Provided (record i { left = rest }) r
  taken i rest b r is provided =
      ⊎_elim (λ some. inr (inl some))
      (λ other.
      ⊎_elim (λ awaited. by (one_parts (IsAwaited p memory m q n r) rest (b ∷ []) (subst (OneOf (IsAwaited p memory m q n r)) is awaited))) (λ covered. inr (inr (inr covered))) other)
      provided
    where
      by : OneOf (IsAwaited p memory m q n r) rest ⊎ OneOf (IsAwaited p memory m q n r) (b ∷ []) → IsAwaited p memory m q n r b ⊎ Provided (record i { left = rest }) r
      by (inl one) = inr (inr (inl one))
      by (inr (inl here)) = inl here
      by (inr (inr none)) = absurd none

  -- a beginning that is taken out, and followed
  pub followed : (i : PureInference) (rest : List PureBeginning) (b : PureBeginning) (j : PureInference) (r : PureRun) → i.left ≡ rest ++ b ∷ [] → Keeps p memory m q n (record i { left = rest }) j → CoversAwaited p memory m q n b j
      → IsWanted p memory m q n r → Provided i r → Provided j r
  followed i rest b j r is keeps covers wanted provided = ⊎_elim (λ awaited. covers r wanted awaited) (λ still. keeps r still) (taken i rest b r is provided)

  -- where no beginning is left
  pub all_covered : (i : PureInference) (r : PureRun) → i.left ≡ [] → Provided i r → IsSome i.undecided ⊎ IsCovered p memory m q n i.founds r
  all_covered i r none provided =
      ⊎_elim inl (λ other. ⊎_elim (λ awaited. absurd (subst (OneOf (IsAwaited p memory m q n r)) none awaited)) inr other) provided

  -- ---- the sentence

  pub part_proper : (args : List PureValue) (h part : Heap) (counter : ℕ) → IsProperStart p memory q.name args h counter → IsPartOf part h → IsProperStart p memory q.name args part counter
  part_proper args h part counter proper is = record {
    procedure = proper.procedure;
    heap = parts_are_heaps memory part h is proper.heap;
    arguments_below = proper.arguments_below;
    heap_below = λ k w holds. proper.heap_below k w (is k w holds);
  }

  pub met_in_whole : (founds : List PureFound) (is_cut : Bool) (args : List PureValue) (part h : Heap) → IsPartOf part h → SomeIsMet p memory m q.name founds is_cut args part → SomeIsMet p memory m q.name founds is_cut args h
  met_in_whole founds is_cut args part h is some = record {
    number = some.number;
    found = some.found;
    is_found = some.is_found;
    as_marked = some.as_marked;
    met = record {
      of_procedure = some.met.of_procedure;
      variables = some.met.variables;
      entered = some.met.entered;
      own = some.met.own;
      part = λ k w holds. is k w (some.met.part k w holds);
      meets = some.met.meets;
    };
  }

  pub covers_so : (i : PureInference) → ¬ (IsSome i.undecided) → CoversAll p memory m q n i → Covers p memory m q.name i.founds n
  covers_so i decided all args h part counter proper is_part few = (
    λ finishes part_finishes.
        let r : PureRun = record { args = args; heap = part; counter = counter } in
        met_in_whole i.founds false args part h is_part
        (⊎_elim (λ some. absurd (decided some)) (λ (covered : IsCovered p memory m q n i.founds r). covered.finished part_finishes)
        (all r (record { proper = part_proper args h part counter proper is_part; ending = inl part_finishes }) few)),
    λ off part_off.
        let r : PureRun = record { args = args; heap = part; counter = counter } in
        met_in_whole i.founds true args part h is_part
        (⊎_elim (λ some. absurd (decided some)) (λ (covered : IsCovered p memory m q n i.founds r). covered.cut_off part_off)
        (all r (record { proper = part_proper args h part counter proper is_part; ending = inr part_off }) few)),
  )
