-- The states of symbolic objects have a meaning, and their actions ask about their arguments.
use Rattle.std.specs.Prelude.{◌⊎◌, ◌↔◌, ◌∷◌, ◌&&◌, ℤ, List, [], Option, Some, None, IsTrue}
use Rattle.std.proofs.Common.{inl, inr, refl}
use Rattle.mem_model.specs.declared.keys.MemoryName.TheVariants.{Object}
use Rattle.object_heap.specs.declared.actions.ObjectAction.{ObjectAction}
use Rattle.object_heap.specs.Names.{action_of}
use Rattle.object_sym.specs.Plain.{object_stands, object_terms, object_plain, object_asked}
use Rattle.object_sym.specs.declared.states.ObjectSym.{ObjectSym}
use Rattle.object_sym.specs.Table.{asked_of_property, asked_by, may_be_prototype}
use Rattle.object_sym.specs.View.{state_view}
use Rattle.pure_terms.specs.Pure.{PureTerm}
use Rattle.sym_chunks.specs.Cases.{null_term}
use Rattle.sym_chunks.specs.Arguments.{may_be_property, may_be_symbol}
use Rattle.sym_model.specs.Laws.{IsMeaning, AsksItsArguments}
use Rattle.sym_model.specs.Lists.{Each, IsAmong}
use Rattle.sym_model.specs.Plain.{IsPlainState}
use Rattle.sym_model.specs.Terms.{is_literal}
use Rattle.sym_model.proofs.ChunkMeaning.{chunks_have_meaning}
use Rattle.sym_model.proofs.ListLaws.{each_if}

pub object_meaning : IsMeaning Object object_stands object_terms
object_meaning = let chunks = chunks_have_meaning Object in record {
  local = λ s v w h agree is. chunks.local (state_view s) v w h agree is;
  one_heap = λ s v g h first second. chunks.one_heap (state_view s) v g h first second;
  of_memory = λ s v h is. chunks.of_memory (state_view s) v h is;
  symbols = λ s v h n is occurs. chunks.symbols (state_view s) v h n is occurs;
  offsets_placed = λ s. chunks.offsets_placed (state_view s);
}

-- ---- what holds of each argument, and of Null, holds of those that are asked about

module _ (P : PureTerm → Type 0) (null : P null_term) where
  each_of_property : (args : List PureTerm) → Each P args → Each P (asked_of_property args)
  each_of_property (l ∷ p ∷ []) all = each_if P (may_be_property l p) (l ∷ p ∷ []) all
  each_of_property [] all = tt
  each_of_property (l ∷ []) all = tt
  each_of_property (l ∷ p ∷ t ∷ more) all = tt

  pub each_asked : (o : Option ObjectAction) (args : List PureTerm) → Each P args → Each P (asked_by o args)
  each_asked (Some ObjectAction.New) (v ∷ []) all = each_if P (may_be_prototype v) (v ∷ null_term ∷ []) (all.0, (null, tt))
  each_asked (Some ObjectAction.New) [] all = tt
  each_asked (Some ObjectAction.New) (v ∷ u ∷ more) all = tt
  each_asked (Some ObjectAction.Get) args all = each_of_property args all
  each_asked (Some ObjectAction.Set) (l ∷ p ∷ t ∷ []) all = each_if P (may_be_property l p) (l ∷ p ∷ []) (all.0, (all.1.0, tt))
  each_asked (Some ObjectAction.Set) [] all = tt
  each_asked (Some ObjectAction.Set) (l ∷ []) all = tt
  each_asked (Some ObjectAction.Set) (l ∷ p ∷ []) all = tt
  each_asked (Some ObjectAction.Set) (l ∷ p ∷ t ∷ s ∷ more) all = tt
  each_asked (Some ObjectAction.Delete) args all = each_of_property args all
  each_asked (Some ObjectAction.Has) args all = each_of_property args all
  each_asked (Some ObjectAction.GetProto) (l ∷ []) all = each_if P (may_be_symbol l) (l ∷ []) all
  each_asked (Some ObjectAction.GetProto) [] all = tt
  each_asked (Some ObjectAction.GetProto) (l ∷ p ∷ more) all = tt
  each_asked (Some ObjectAction.SetProto) (l ∷ v ∷ []) all =
      each_if P (may_be_symbol l && may_be_prototype v) (l ∷ v ∷ null_term ∷ []) (all.0, (all.1.0, (null, tt)))
  each_asked (Some ObjectAction.SetProto) [] all = tt
  each_asked (Some ObjectAction.SetProto) (l ∷ []) all = tt
  each_asked (Some ObjectAction.SetProto) (l ∷ v ∷ t ∷ more) all = tt
  each_asked None args all = tt

each_given : (args all : List PureTerm) → ((t : PureTerm) → IsAmong t args → IsAmong t all) → Each (λ t. IsAmong t all ⊎ IsTrue (is_literal t)) args
each_given [] all f = tt
each_given (t ∷ ts) all f = (inl (f t (inl refl)), each_given ts all (λ s among. f s (inr among)))

pub object_asks_its_arguments : AsksItsArguments object_asked
object_asks_its_arguments action args = (
  each_asked (λ t. IsAmong t args ⊎ IsTrue (is_literal t)) (inr refl) (action_of action) args (each_given args args (λ t among. among)),
  tt,
)

pub object_plain_is_said : (s : ObjectSym) (low high : ℤ) → object_plain s low high ↔ IsPlainState Object (object_terms s) low high
object_plain_is_said s low high = (λ is. is, λ is. is)
