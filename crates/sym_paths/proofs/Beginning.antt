-- Paths on which a procedure begins, and the stores of calls that begin.
use Rattle.std.proofs.Common.{◌≡◌, ◌↔◌, ℕ, ◌+◌, ◌^◌, ◌≤◌, suc, ℤ, pos, neg_ℤ, ◌≤ℤ◌, List, [], ◌∷◌, length, drop, slice_get, Bool, true, false, if◌then◌else◌, Option, Some, None, IsTrue, refl, sym, ap, ap₂, subst, ◌∙◌, arith}
use Rattle.std.specs.Str.{bytes_eq}
use Rattle.gil_values.specs.Pure.{PureValue}
use Rattle.gil_values.specs.Symbols.{AreBelow}
use Rattle.gil_syntax.specs.Evaluation.{value_of}
use Rattle.gil_syntax.specs.Programs.{find_proc}
use Rattle.gil_syntax.specs.Pure.{PureProc, PureParts}
use Rattle.gil_machine.specs.Run.{start, params_of}
use Rattle.gil_machine.specs.State.{Frame, State}
use Rattle.gil_machine.specs.Step.{bind_all}
use Rattle.gil_machine.proofs.Standings.{drop-found}
use Rattle.mem_model.specs.Heaps.{Heap}
use Rattle.pure_terms.specs.declared.variables.Sort.{Sort}
use Rattle.pure_terms.specs.Meaning.{value, values, all_true, IsProper, IsOver}
use Rattle.pure_terms.specs.Pure.{PureTerm, from_list, PureAtom, term_of}
use Rattle.sym_evaluation.specs.Meaning.{AreSame, HaveValues}
use Rattle.sym_evaluation.specs.Pure.{PureStore, term_at}
use Rattle.sym_model.specs.Laws.{IsPlainWithin, IsDecidedWithin}
use Rattle.sym_model.specs.Lists.{Each}
use Rattle.sym_model.specs.Terms.{StateTerms, all_of, AreEachOver}
use Rattle.sym_model.proofs.Asking.{both_parts}
use Rattle.sym_model.proofs.ListLaws.{same_some, not_none}
use Rattle.sym_paths.specs.Beginning.{beginning, Begins, BeginsIn, BeginningsStand}
use Rattle.sym_paths.specs.Frames.{IsBound, terms_bound, IsFirstStore, called_frame}
use Rattle.sym_paths.specs.Meaning.{AreFrames, Stands, OfEachName, IsOverTable}
use Rattle.sym_paths.specs.Pure.{PurePath}
use Rattle.sym_paths.specs.Steps.{IsPlainPath}

-- ---- stores of calls that begin

same_if : (v : List PureValue) (b : Bool) (t : PureTerm) (w : PureValue) (o : Option PureTerm) (u : Option PureValue) → value v t ≡ Some w → AreSame v o u → AreSame v (if b then Some t else o) (if b then Some w else u)
same_if v true t w o u is same = is
same_if v false t w o u is same = same

pub bound_same : (v : List PureValue) (params : List (List ℕ)) (ts : List PureTerm) (ws : List PureValue) → values v (from_list ts) ≡ Some ws → (y : List ℕ) → AreSame v (term_at (terms_bound params ts) y) (value_of (bind_all params ws) y)
bound_same v [] ts ws is y = tt
bound_same v (x ∷ xs) [] ws is y = subst (λ us. AreSame v None (value_of (bind_all (x ∷ xs) us) y)) (same_some is) tt
bound_same v (x ∷ xs) (t ∷ ts) ws is y =
    let (w, (us, (first, rest, whole))) = both_parts (value v t) (values v (from_list ts)) ws is in
    subst (λ zs. AreSame v (term_at (terms_bound (x ∷ xs) (t ∷ ts)) y) (value_of (bind_all (x ∷ xs) zs) y)) (sym whole)
    (same_if v (bytes_eq x y) t w (term_at (terms_bound xs ts) y) (value_of (bind_all xs us) y) first (bound_same v xs ts us rest y))

pub as_many : (v : List PureValue) (ts : List PureTerm) (ws : List PureValue) → values v (from_list ts) ≡ Some ws → length ws ≡ length ts
as_many v [] ws is = ap length (sym (same_some is))
as_many v (t ∷ ts) ws is =
    let (w, (us, (first, rest, whole))) = both_parts (value v t) (values v (from_list ts)) ws is in
    ap length whole ∙ ap suc (as_many v ts us rest)

picked : (P : PureTerm → Type 0) (b : Bool) (t u : PureTerm) (o : Option PureTerm) → P t → ((w : PureTerm) → o ≡ Some w → P w) → (if b then Some t else o) ≡ Some u → P u
picked P true t u o new old is = subst P (same_some is) new
picked P false t u o new old is = old u is

bound_each : (P : PureTerm → Type 0) (params : List (List ℕ)) (ts : List PureTerm) → Each P ts → OfEachName P (terms_bound params ts)
bound_each P [] ts all y u is = not_none is
bound_each P (x ∷ xs) [] all y u is = not_none is
bound_each P (x ∷ xs) (t ∷ ts) all y u is = picked P (bytes_eq x y) t u (term_at (terms_bound xs ts) y) all.0 (bound_each P xs ts all.1 y) is

pub first_each : (P : PureTerm → Type 0) (params : List (List ℕ)) (ts : List PureTerm) (bs : PureStore) → IsFirstStore params ts bs → Each P ts → OfEachName P bs
first_each P params ts bs first all y u is = bound_each P params ts all y u (sym (first y) ∙ is)

pub first_more : (params : List (List ℕ)) (ts : List PureTerm) (n : ℕ) (p : List ℕ) (t : PureTerm) (old new : PureStore) → slice_get params n ≡ Some p → slice_get ts n ≡ Some t → IsBound old p t new
    → IsFirstStore (drop (n + 1) params) (drop (n + 1) ts) old → IsFirstStore (drop n params) (drop n ts) new
first_more params ts n p t old new name value bound before x =
    bound x ∙ ap (λ o. if bytes_eq p x then Some t else o) (before x) ∙ ap (λ bs. term_at bs x) (sym (ap₂ terms_bound (drop-found params n p name) (drop-found ts n t value)))

-- ---- states for which the path stands

same_both : (v : List PureValue) (o : Option PureTerm) (u w : Option PureValue) → AreSame v o u → AreSame v o w → u ≡ w
same_both v (Some t) (Some a) (Some b) first second = sym first ∙ second
same_both v (Some t) (Some a) None first second = absurd second
same_both v (Some t) None w first second = absurd first
same_both v None None None first second = refl
same_both v None None (Some b) first second = absurd second
same_both v None (Some a) w first second = absurd first

no_callers : (v : List PureValue) (gs : List Frame) → AreFrames v [] gs → gs ≡ []
no_callers v [] are = refl
no_callers v (g ∷ gs) are = absurd are

module _ {S : Type 0} (p : PureParts) (stands : S → List PureValue → Heap → Type 0) (q : PureProc) (args : List PureTerm) (vars : List Sort)
    (conds : List PureAtom) (memory : S) (bs : PureStore) (first : IsFirstStore q.params args bs) (found : find_proc p.procs q.name ≡ Some q)
    (v ws : List PureValue) (have : HaveValues v args ws) where
  bound : (x : List ℕ) → AreSame v (term_at bs x) (value_of (bind_all (params_of (find_proc p.procs q.name)) ws) x)
  bound x =
      subst (λ o. AreSame v o (value_of (bind_all (params_of (find_proc p.procs q.name)) ws) x)) (sym (first x))
      (subst (λ o. AreSame v (term_at (terms_bound q.params args) x) (value_of (bind_all (params_of o) ws) x)) (sym found) (bound_same v q.params args ws have x))

  begins_there : (s : State) → Stands stands (beginning q bs vars conds memory) v s → BeginsIn p stands q ws vars conds memory v s
  begins_there s is = record {
    proper = is.proper;
    meets = is.meets;
    heap = is.memory;
    symbols_below = is.symbols_below;
    call = record {
      procedure = sym is.frames.0.procedure;
      next = sym is.frames.0.next;
      store = λ x. same_both v (term_at bs x) (value_of s.current.store x) (value_of (bind_all (params_of (find_proc p.procs q.name)) ws) x) (is.frames.0.store x) (bound x);
      waits = sym is.frames.0.waits;
      handler = sym is.frames.0.handler;
    };
    callers = no_callers v s.callers is.frames.1;
    draws = is.draws;
  }

  stands_there : (s : State) → BeginsIn p stands q ws vars conds memory v s → Stands stands (beginning q bs vars conds memory) v s
  stands_there s is = record {
    proper = is.proper;
    meets = is.meets;
    frames = (
      record {
        procedure = sym is.call.procedure;
        next = sym is.call.next;
        store = λ x. subst (AreSame v (term_at bs x)) (sym (is.call.store x)) (bound x);
        waits = sym is.call.waits;
        handler = sym is.call.handler;
      },
      subst (AreFrames v []) (sym is.callers) tt,
    );
    memory = is.heap;
    symbols_below = is.symbols_below;
    draws = is.draws;
  }

  starts_there : (h : Heap) (counter : ℕ) → IsProper vars v → IsTrue (all_true v conds) → stands memory v h → AreBelow counter v
      → Stands stands (beginning q bs vars conds memory) v (start p q.name ws h counter)
  starts_there h counter proper meets heap below = stands_there (start p q.name ws h counter) (record {
    proper = proper;
    meets = meets;
    heap = heap;
    symbols_below = below;
    call = record { procedure = refl; next = refl; store = λ x. refl; waits = refl; handler = refl };
    callers = refl;
    draws = refl;
  })

pub beginnings_stand : {S : Type 0} (stands : S → List PureValue → Heap → Type 0) (terms : S → StateTerms) (plain : S → ℤ → ℤ → Type 0) → BeginningsStand stands terms plain
beginnings_stand {S} stands terms plain = record {
  states = λ p q args vars conds memory path begins found v ws s have.
      subst (λ (r : PurePath S). Stands stands r v s ↔ BeginsIn p stands q ws vars conds memory v s) (sym begins.is)
      (begins_there p stands q args vars conds memory begins.store begins.first found v ws have s, stands_there p stands q args vars conds memory begins.store begins.first found v ws have s);
  starts = λ p q args vars conds memory path begins found v ws h counter have proper meets heap below.
      subst (λ (r : PurePath S). Stands stands r v (start p q.name ws h counter)) (sym begins.is)
      (starts_there p stands q args vars conds memory begins.store begins.first found v ws have h counter proper meets heap below);
  over = λ q args vars conds memory path begins args_over conds_over memory_over.
      subst (λ (r : PurePath S). IsOverTable terms r) (sym begins.is) (record {
        conds = conds_over;
        given = tt;
        stores = (first_each (IsOver vars) q.params args begins.store begins.first args_over, tt);
        memory = memory_over;
        drawn = tt;
        ending = tt;
      });
  plain_path = λ q args vars conds memory path b begins args_plain conds_decided memory_plain few.
      subst (λ (r : PurePath S). IsPlainPath plain b r) (sym begins.is) (record {
        stores = (first_each (IsPlainWithin (neg_ℤ (pos b)) (pos b)) q.params args begins.store begins.first args_plain, tt);
        memory = memory_plain;
        conds = conds_decided;
        ending = tt;
        few_variables = few;
      });
}
