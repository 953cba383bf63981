-- Where a name gets a term and its value, stores still agree.
use Rattle.std.proofs.Common.{◌≡◌, ℕ, List, Bool, true, false, if◌then◌else◌, Option, Some, sym, subst}
use Rattle.std.specs.Str.{bytes_eq}
use Rattle.gil_values.specs.Pure.{PureValue}
use Rattle.gil_syntax.specs.Evaluation.{Store, bind, value_of}
use Rattle.pure_terms.specs.Meaning.{value, IsOver}
use Rattle.pure_terms.specs.Pure.{PureTerm}
use Rattle.sym_evaluation.specs.Meaning.{AreSame, StandsFor}
use Rattle.sym_evaluation.specs.Pure.{PureStore, term_at}
use Rattle.sym_model.proofs.ListLaws.{same_some}
use Rattle.sym_model.specs.Laws.{IsPlainWithin}
use Rattle.sym_paths.specs.Laws.{IsBound, BindingsKeepStores}
use Rattle.sym_paths.specs.Meaning.{OfEachName}

same_by : (v : List PureValue) (b : Bool) (t : PureTerm) (w : PureValue) (o : Option PureTerm) (u : Option PureValue) → value v t ≡ Some w → AreSame v o u → AreSame v (if b then Some t else o) (if b then Some w else u)
same_by v true t w o u is same = is
same_by v false t w o u is same = same

pub agree_bound : (v : List PureValue) (bs cs : PureStore) (s : Store) (x : List ℕ) (t : PureTerm) (w : PureValue) → IsBound bs x t cs → value v t ≡ Some w → StandsFor v bs s → StandsFor v cs (bind x w s)
agree_bound v bs cs s x t w bound is stands y =
    subst (λ o. AreSame v o (if bytes_eq x y then Some w else value_of s y)) (sym (bound y)) (same_by v (bytes_eq x y) t w (term_at bs y) (value_of s y) is (stands y))

picked_by : (P : PureTerm → Type 0) (b : Bool) (t u : PureTerm) (o : Option PureTerm) → P t → ((w : PureTerm) → o ≡ Some w → P w) → (if b then Some t else o) ≡ Some u → P u
picked_by P true t u o new old is = subst P (same_some is) new
picked_by P false t u o new old is = old u is

pub each_bound : (P : PureTerm → Type 0) (bs cs : PureStore) (x : List ℕ) (t : PureTerm) → IsBound bs x t cs → P t → OfEachName P bs → OfEachName P cs
each_bound P bs cs x t bound new old y u is =
    picked_by P (bytes_eq x y) t u (term_at bs y) new (old y) (subst (λ o. o ≡ Some u) (bound y) is)

pub bindings_keep_stores : BindingsKeepStores
bindings_keep_stores = record {
  agree = agree_bound;
  over = λ vars. each_bound (IsOver vars);
  plain = λ low high. each_bound (IsPlainWithin low high);
}
