-- What a path stands for stays where the table and the valuation grow.
use Rattle.std.proofs.Common.{◌≡◌, ℕ, ◌<◌, ◌≤◌, List, [], ◌∷◌, ◌++◌, ◌&&◌, length, Option, Some, None, IsTrue, refl, sym, subst, ◌∙◌, arith}
use Rattle.std.proofs.lemmas.Option.{slice_get_within}
use Rattle.gil_values.specs.Pure.{PureValue}
use Rattle.gil_values.specs.Symbols.{AreBelow}
use Rattle.gil_syntax.specs.Evaluation.{Store, value_of}
use Rattle.gil_machine.specs.State.{Frame, State}
use Rattle.mem_model.specs.declared.keys.MemoryName.{MemoryName}
use Rattle.mem_model.specs.Heaps.{Heap}
use Rattle.pure_terms.specs.declared.variables.Sort.{Sort}
use Rattle.pure_terms.specs.Laws.{AgreeOn}
use Rattle.pure_terms.specs.Meaning.{all_true, IsProper, IsOver}
use Rattle.pure_terms.specs.Pure.{PureTerm, PureAtom, term_of, variables}
use Rattle.pure_terms.proofs.VariableLaws.{slice_get-append, stay_when_tables_grow}
use Rattle.sym_evaluation.specs.Meaning.{AreSame, StandsFor}
use Rattle.sym_evaluation.specs.Pure.{PureStore, term_at}
use Rattle.sym_model.specs.Laws.{IsMeaning}
use Rattle.sym_model.specs.Lists.{Each, IsAmong}
use Rattle.sym_model.specs.Terms.{StateTerms, all_of}
use Rattle.sym_model.proofs.ListLaws.{each_to, each_right, each_is_among}
use Rattle.sym_paths.specs.Laws.{with_more, PathsMayGrow}
use Rattle.sym_paths.specs.Meaning.{AreFrames, frames_of, Stands, OfEachName, IsOverTable, end_terms}
use Rattle.sym_paths.specs.Pure.{PureFrame, PurePath}
use Rattle.sym_paths.proofs.Valuations.{below_both, below_higher}

module _ (vars : List Sort) (v more : List PureValue) (one_each : length v ≡ length vars) where
  pub all_true-more : (atoms : List PureAtom) → Each (λ a. IsOver vars (term_of a)) atoms → all_true (v ++ more) atoms ≡ all_true v atoms
  all_true-more [] over = refl
  all_true-more (a ∷ atoms) over = λ i. stay_when_tables_grow.truths a vars v more over.0 one_each i && all_true-more atoms over.1 i

  same-more : (o : Option PureTerm) (u : Option PureValue) → ((t : PureTerm) → o ≡ Some t → IsOver vars t) → AreSame v o u → AreSame (v ++ more) o u
  same-more (Some t) (Some w) over same = stay_when_tables_grow.values t vars v more (over t refl) one_each ∙ same
  same-more None None over same = tt
  same-more (Some t) None over same = absurd same
  same-more None (Some w) over same = absurd same

  store-more : (bs : PureStore) (s : Store) → OfEachName (IsOver vars) bs → StandsFor v bs s → StandsFor (v ++ more) bs s
  store-more bs s over same x = same-more (term_at bs x) (value_of s x) (over x) (same x)

  frames-more : (fs : List PureFrame) (gs : List Frame) → Each (λ f. OfEachName (IsOver vars) f.store) fs → AreFrames v fs gs → AreFrames (v ++ more) fs gs
  frames-more [] [] over are = tt
  frames-more (f ∷ fs) (g ∷ gs) over are = (
    record {
      procedure = are.0.procedure;
      next = are.0.next;
      store = store-more f.store g.store over.0 are.0.store;
      waits = are.0.waits;
      handler = are.0.handler;
    },
    frames-more fs gs over.1 are.1,
  )
  frames-more [] (g ∷ gs) over are = absurd are
  frames-more (f ∷ fs) [] over are = absurd are

  agree-more : (t : PureTerm) → IsOver vars t → AgreeOn (variables t) v (v ++ more)
  agree-more t over x has =
      let within : x.number < length vars = slice_get_within vars x.number x.sort (over x has) in
      sym (slice_get-append v more x.number (omega (arith, within, one_each)))

-- the elements of a later part are among all of them
pub later_among : {A : Type 0} (xs ys : List A) → Each (λ a. IsAmong a (xs ++ ys)) ys
later_among xs ys = each_right (λ a. IsAmong a (xs ++ ys)) xs ys (each_is_among (xs ++ ys))

over_more : (vars sorts : List Sort) (t : PureTerm) → IsOver vars t → IsOver (vars ++ sorts) t
over_more vars sorts t over = stay_when_tables_grow.over t vars sorts over

pub path_over : {S : Type 0} (terms : S → StateTerms) (path : PurePath S) (sorts : List Sort) → IsOverTable terms path → IsOverTable terms (with_more path sorts)
path_over terms path sorts over = record {
  conds = each_to (λ a. IsOver path.vars (term_of a)) (λ a. IsOver (path.vars ++ sorts) (term_of a)) path.conds (λ a. over_more path.vars sorts (term_of a)) over.conds;
  given = each_to (λ a. IsOver path.vars (term_of a)) (λ a. IsOver (path.vars ++ sorts) (term_of a)) path.given (λ a. over_more path.vars sorts (term_of a)) over.given;
  stores = each_to (λ f. OfEachName (IsOver path.vars) f.store) (λ f. OfEachName (IsOver (path.vars ++ sorts)) f.store) path.stack (λ f all x t is. over_more path.vars sorts t (all x t is)) over.stores;
  memory = each_to (IsOver path.vars) (IsOver (path.vars ++ sorts)) (all_of (terms path.memory)) (over_more path.vars sorts) over.memory;
  drawn = each_to (IsOver path.vars) (IsOver (path.vars ++ sorts)) path.drawn (over_more path.vars sorts) over.drawn;
  ending = each_to (IsOver path.vars) (IsOver (path.vars ++ sorts)) (end_terms path.ending) (over_more path.vars sorts) over.ending;
}

pub path_stands : {S : Type 0} (memory : MemoryName) (stands : S → List PureValue → Heap → Type 0) (terms : S → StateTerms) → IsMeaning memory stands terms
    → (path : PurePath S) (v : List PureValue) (s : State) (sorts : List Sort) (values : List PureValue) (counter : ℕ) → IsOverTable terms path → Stands stands path v s
    → IsProper (path.vars ++ sorts) (v ++ values) → s.counter ≤ counter → AreBelow counter values → Stands stands (with_more path sorts) (v ++ values) (record s { counter = counter })
path_stands memory stands terms meaning path v s sorts values counter over is proper higher below = record {
  proper = proper;
  meets = subst IsTrue (sym (all_true-more path.vars v values is.proper.one_each path.conds over.conds)) is.meets;
  frames = frames-more path.vars v values is.proper.one_each path.stack (frames_of s) over.stores is.frames;
  memory = meaning.local path.memory v (v ++ values) s.heap (each_to (IsOver path.vars) (λ t. AgreeOn (variables t) v (v ++ values)) (all_of (terms path.memory)) (agree-more path.vars v values is.proper.one_each) over.memory) is.memory;
  symbols_below = below_both counter v values (below_higher s.counter counter v higher is.symbols_below) below;
  draws = is.draws;
}

pub paths_may_grow : {S : Type 0} (memory : MemoryName) (stands : S → List PureValue → Heap → Type 0) (terms : S → StateTerms) → IsMeaning memory stands terms → PathsMayGrow stands terms
paths_may_grow memory stands terms meaning = record {
  meaning = path_stands memory stands terms meaning;
  over = path_over terms;
}
