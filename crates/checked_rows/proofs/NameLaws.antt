-- The names of logic commands stand for those of the checked state.
use Rattle.std.proofs.Common.{◌≡◌, ℕ, ◌+◌, List, [], ◌∷◌, ◌++◌, drop, length, Bool, true, false, if◌then◌else◌, cond, Option, Some, None, slice_get, refl, sym, ap, subst, ◌∙◌, arith}
use Rattle.std.specs.Str.{bytes_eq}
use Rattle.gil_values.specs.Pure.{PureValue}
use Rattle.gil_syntax.specs.Evaluation.{Store, value_of}
use Rattle.gil_machine.specs.State.{Frame}
use Rattle.gil_machine.proofs.Standings.{drop-found}
use Rattle.checked_runs.specs.Checked.{Entry, variables_in, logicals_in}
use Rattle.checked_runs.proofs.Stores.{first_value, second_value}
use Rattle.gil_syntax.specs.declared.assertions.Param.{Param}
use Rattle.pure_terms.specs.Pure.{PureTerm}
use Rattle.sym_evaluation.specs.Meaning.{AreSame, StandsFor}
use Rattle.sym_evaluation.specs.Pure.{PureStore, term_at}
use Rattle.sym_model.proofs.ListLaws.{not_none}
use Rattle.sym_paths.proofs.Moving.{running_stands}
use Rattle.sym_paths.specs.Laws.{IsBound}
use Rattle.sym_paths.specs.Meaning.{AreFrames, OfEachName}
use Rattle.sym_paths.specs.Frames.{running_store}
use Rattle.sym_paths.specs.Pure.{PureFrame}
use Rattle.checked_rows.specs.Names.{variables_there, logicals_there, AreNames}

pub set_more : (bs old before after : PureStore) (n : ℕ) (x : List ℕ) (t : PureTerm) → slice_get bs n ≡ Some (record { name = x; term = t }) → IsBound before x t after
    → ((y : List ℕ) → term_at before y ≡ term_at (drop (n + 1) bs ++ old) y) → (y : List ℕ) → term_at after y ≡ term_at (drop n bs ++ old) y
set_more bs old before after n x t at bound kept y =
    bound y ∙ ap (λ o. if bytes_eq x y then Some t else o) (kept y) ∙ ap (λ cs. term_at (cs ++ old) y) (sym (drop-found bs n (record { name = x; term = t }) at))

-- ---- two stores, one before the other

first_term : (bs cs : PureStore) (x : List ℕ) (t : PureTerm) → term_at bs x ≡ Some t → term_at (bs ++ cs) x ≡ Some t
first_term [] cs x t is = not_none is
first_term (b ∷ bs) cs x t is = by (bytes_eq b.name x) (first_term bs cs x t) is
  where
    by : (e : Bool) → (term_at bs x ≡ Some t → term_at (bs ++ cs) x ≡ Some t) → cond e (Some b.term) (term_at bs x) ≡ Some t → cond e (Some b.term) (term_at (bs ++ cs) x) ≡ Some t
    by true later at = at
    by false later at = later at

second_term : (bs cs : PureStore) (x : List ℕ) → term_at bs x ≡ None → term_at (bs ++ cs) x ≡ term_at cs x
second_term [] cs x none = refl
second_term (b ∷ bs) cs x none = by (bytes_eq b.name x) (second_term bs cs x) none
  where
    by : (e : Bool) → (term_at bs x ≡ None → term_at (bs ++ cs) x ≡ term_at cs x) → cond e (Some b.term) (term_at bs x) ≡ None → cond e (Some b.term) (term_at (bs ++ cs) x) ≡ term_at cs x
    by true later at = not_none (sym at)
    by false later at = later at

pub stand_both : (v : List PureValue) (bs cs : PureStore) (s t : Store) → StandsFor v bs s → StandsFor v cs t → StandsFor v (bs ++ cs) (s ++ t)
stand_both v bs cs s t first second x = by (term_at bs x) (value_of s x) refl refl (first x)
  where
    by : (o : Option PureTerm) (u : Option PureValue) → term_at bs x ≡ o → value_of s x ≡ u → AreSame v o u → AreSame v (term_at (bs ++ cs) x) (value_of (s ++ t) x)
    by (Some r) (Some w) has is same =
        subst (λ o. AreSame v o (value_of (s ++ t) x)) (sym (first_term bs cs x r has)) (subst (AreSame v (Some r)) (sym (first_value s t x w is)) same)
    by (Some r) None has is same = absurd same
    by None (Some w) has is same = absurd same
    by None None has is same =
        subst (λ o. AreSame v o (value_of (s ++ t) x)) (sym (second_term bs cs x has)) (subst (AreSame v (term_at cs x)) (sym (second_value s t x is)) (second x))

pub each_both : (P : PureTerm → Type 0) (bs cs : PureStore) → OfEachName P bs → OfEachName P cs → OfEachName P (bs ++ cs)
each_both P bs cs first second x t is = by (term_at bs x) refl
  where
    by : (o : Option PureTerm) → term_at bs x ≡ o → P t
    by (Some r) has = first x t (has ∙ (sym (first_term bs cs x r has) ∙ is))
    by None has = second x t (sym (second_term bs cs x has) ∙ is)

-- another store before the same one
pub same_before : (bs ds cs : PureStore) (x : List ℕ) → term_at bs x ≡ term_at ds x → term_at (bs ++ cs) x ≡ term_at (ds ++ cs) x
same_before bs ds cs x same = by (term_at ds x) refl
  where
    by : (o : Option PureTerm) → term_at ds x ≡ o → term_at (bs ++ cs) x ≡ term_at (ds ++ cs) x
    by (Some t) is = first_term bs cs x t (same ∙ is) ∙ sym (first_term ds cs x t is)
    by None is = second_term bs cs x (same ∙ is) ∙ sym (second_term ds cs x is)

-- ---- the names of a frame

variables_stand : (v : List PureValue) (fs : List PureFrame) (g : Frame) (gs : List Frame) (bs : PureStore) (entry : Entry) → AreFrames v fs (g ∷ gs) → StandsFor v bs entry.variables → StandsFor v (variables_there fs bs) (variables_in gs entry)
variables_stand v [] g gs bs entry are stands = absurd are
variables_stand v (f ∷ []) g [] bs entry are stands = stands
variables_stand v (f ∷ []) g (h ∷ gs) bs entry are stands = absurd are.1
variables_stand v (f ∷ k ∷ fs) g [] bs entry are stands = absurd are.1
variables_stand v (f ∷ k ∷ fs) g (h ∷ gs) bs entry are stands = λ x. tt

pub names_stand : (v : List PureValue) (fs : List PureFrame) (g : Frame) (gs : List Frame) (variables bs : PureStore) (entry : Entry) → AreFrames v fs (g ∷ gs) → StandsFor v variables entry.variables
    → AreNames fs variables bs → StandsFor v bs (g.store ++ variables_in gs entry)
names_stand v fs g gs variables bs entry are stands names x =
    subst (λ o. AreSame v o (value_of (g.store ++ variables_in gs entry) x)) (sym (names x))
    (stand_both v (running_store fs) (variables_there fs variables) g.store (variables_in gs entry) (running_stands v fs g gs are) (variables_stand v fs g gs variables entry are stands) x)

variables_each : (P : PureTerm → Type 0) (fs : List PureFrame) (bs : PureStore) → OfEachName P bs → OfEachName P (variables_there fs bs)
variables_each P [] bs all x t is = not_none is
variables_each P (f ∷ []) bs all x t is = all x t is
variables_each P (f ∷ g ∷ fs) bs all x t is = not_none is

pub names_each : (P : PureTerm → Type 0) (fs : List PureFrame) (variables bs : PureStore) → OfEachName P (running_store fs) → OfEachName P variables → AreNames fs variables bs → OfEachName P bs
names_each P fs variables bs running all names x t is =
    each_both P (running_store fs) (variables_there fs variables) running (variables_each P fs variables all) x t (sym (names x) ∙ is)

pub same_logicals : (v : List PureValue) (fs : List PureFrame) (g : Frame) (gs : List Frame) (entry : Entry) → AreFrames v fs (g ∷ gs) → logicals_there fs entry.spec.logicals ≡ logicals_in gs entry
same_logicals v [] g gs entry are = absurd are
same_logicals v (f ∷ []) g [] entry are = refl
same_logicals v (f ∷ []) g (h ∷ gs) entry are = absurd are.1
same_logicals v (f ∷ k ∷ fs) g [] entry are = absurd are.1
same_logicals v (f ∷ k ∷ fs) g (h ∷ gs) entry are = refl

-- ---- the frame of the entry runs alone

pub some_there : (fs : List PureFrame) (bs : PureStore) → length fs ≡ 1 → bs ≡ variables_there fs bs
some_there [] bs one = absurd (omega (arith, one))
some_there (f ∷ []) bs one = refl
some_there (f ∷ g ∷ fs) bs one = absurd (omega (arith, one))

pub none_there : (fs : List PureFrame) (bs : PureStore) → ¬ (length fs ≡ 1) → [] ≡ variables_there fs bs
none_there [] bs many = refl
none_there (f ∷ []) bs many = absurd (many refl)
none_there (f ∷ g ∷ fs) bs many = refl

pub some_logicals : (fs : List PureFrame) (ps : List Param) → length fs ≡ 1 → ps ≡ logicals_there fs ps
some_logicals [] ps one = absurd (omega (arith, one))
some_logicals (f ∷ []) ps one = refl
some_logicals (f ∷ g ∷ fs) ps one = absurd (omega (arith, one))

pub no_logicals : (fs : List PureFrame) (ps : List Param) → ¬ (length fs ≡ 1) → [] ≡ logicals_there fs ps
no_logicals [] ps many = refl
no_logicals (f ∷ []) ps many = absurd (many refl)
no_logicals (f ∷ g ∷ fs) ps many = refl
