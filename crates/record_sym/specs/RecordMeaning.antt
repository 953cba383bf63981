-- The states of symbolic records have a meaning.
use Rattle.std.specs.Prelude.{◌↔◌, ◌∷◌, ℤ, List, [], Option, Some, None}
use Rattle.std.proofs.Common.{inl}
use Rattle.mem_model.specs.declared.keys.MemoryName.TheVariants.{Record}
use Rattle.pure_terms.specs.Pure.{PureTerm}
use Rattle.record_heap.specs.declared.actions.RecordAction.{RecordAction}
use Rattle.record_heap.specs.Names.{action_of}
use Rattle.record_sym.specs.Plain.{record_stands, record_terms, record_plain, record_asked}
use Rattle.record_sym.specs.declared.states.RecordSym.{RecordSym}
use Rattle.record_sym.specs.Table.{may_be_taken, unstored, asked_by, formed_by}
use Rattle.record_sym.specs.View.{state_view}
use Rattle.sym_model.specs.Laws.{IsMeaning, AsksItsArguments}
use Rattle.sym_model.specs.Lists.{Each, IsAmong}
use Rattle.sym_model.specs.Plain.{IsPlainState}
use Rattle.sym_model.proofs.ChunkMeaning.{chunks_have_meaning}
use Rattle.sym_model.proofs.ListLaws.{each_if, each_to, each_is_among}

pub record_meaning : IsMeaning Record record_stands record_terms
record_meaning = let chunks = chunks_have_meaning Record in record {
  local = λ s v w h agree is. chunks.local (state_view s) v w h agree is;
  one_heap = λ s v g h first second. chunks.one_heap (state_view s) v g h first second;
  of_memory = λ s v h is. chunks.of_memory (state_view s) v h is;
  symbols = λ s v h n is occurs. chunks.symbols (state_view s) v h n is occurs;
  offsets_placed = λ s. chunks.offsets_placed (state_view s);
}

-- what holds of each argument holds of those that are asked about
module _ (P : PureTerm → Type 0) where
  each_unstored : (op : RecordAction) (args : List PureTerm) → Each P args → Each P (unstored op args)
  each_unstored RecordAction.Mutate (l ∷ p ∷ more) all = (all.0, (all.1.0, tt))
  each_unstored RecordAction.Mutate (l ∷ []) all = all
  each_unstored RecordAction.Mutate [] all = all
  each_unstored RecordAction.New args all = all
  each_unstored RecordAction.Lookup args all = all
  each_unstored RecordAction.Dispose args all = all

  pub each_asked : (op : Option RecordAction) (args : List PureTerm) → Each P args → Each P (asked_by op args)
  each_asked (Some op) args all = each_if P (may_be_taken op args) (unstored op args) (each_unstored op args all)
  each_asked None args all = tt

-- where the form of an argument may be needed, it is asked about
formed : (op : Option RecordAction) (args : List PureTerm) → Each (λ t. IsAmong t args × IsAmong t (asked_by op args)) (formed_by op args)
formed (Some RecordAction.New) args =
    both_among args (asked_by (Some RecordAction.New) args) (asked_by (Some RecordAction.New) args)
    (each_asked (λ t. IsAmong t args) (Some RecordAction.New) args (each_is_among args)) (each_is_among (asked_by (Some RecordAction.New) args))
  where
    both_among : (ts us xs : List PureTerm) → Each (λ t. IsAmong t ts) xs → Each (λ t. IsAmong t us) xs → Each (λ t. IsAmong t ts × IsAmong t us) xs
    both_among ts us [] first second = tt
    both_among ts us (x ∷ xs) first second = ((first.0, second.0), both_among ts us xs first.1 second.1)
formed (Some RecordAction.Lookup) args = tt
formed (Some RecordAction.Mutate) args = tt
formed (Some RecordAction.Dispose) args = tt
formed None args = tt

pub record_asks_its_arguments : AsksItsArguments record_asked
record_asks_its_arguments action args = (
  each_to (λ t. IsAmong t args) _ (asked_by (action_of action) args) (λ t among. inl among) (each_asked (λ t. IsAmong t args) (action_of action) args (each_is_among args)),
  formed (action_of action) args,
)

pub record_plain_is_said : (s : RecordSym) (low high : ℤ) → record_plain s low high ↔ IsPlainState Record (record_terms s) low high
record_plain_is_said s low high = (λ plain. plain, λ plain. plain)
