-- The states of symbolic blocks have a meaning.
use Rattle.std.specs.Prelude.{◌≡◌, ◌↔◌, ◌∷◌, ◌⊎◌, ℤ, List, [], Bool, true, false, if◌then◌else◌, Option, Some, None, IsTrue, refl}
use Rattle.std.proofs.Common.{inl, inr}
use Rattle.gil_values.specs.declared.kinds.Kind.{Kind}
use Rattle.mem_model.specs.declared.keys.MemoryName.TheVariants.{Block}
use Rattle.block_heap.specs.declared.actions.BlockAction.{BlockAction}
use Rattle.block_heap.specs.Names.{action_of}
use Rattle.block_sym.specs.Asking.{may_be_address, asked_parts, asked_of_address, asked_by, formed_of_address, formed_by}
use Rattle.block_sym.specs.Plain.{block_stands, block_terms, block_plain, block_asked}
use Rattle.block_sym.specs.View.{state_view}
use Rattle.block_sym.specs.declared.states.BlockSym.{BlockSym}
use Rattle.pure_terms.specs.Kinds.{allows, known_kind}
use Rattle.pure_terms.specs.Pure.{PureTerm, literal, variable, list_of, unary_of, binary_of, PureTerms, to_list}
use Rattle.sym_chunks.proofs.Wrapping.{wrapped_meaning}
use Rattle.sym_model.specs.Cores.{zero_term}
use Rattle.sym_model.specs.Laws.{IsMeaning, AsksItsArguments}
use Rattle.sym_model.specs.Lists.{Each, IsAmong}
use Rattle.sym_model.specs.Plain.{IsPlainState}
use Rattle.sym_model.specs.Terms.{is_literal}

pub block_meaning : IsMeaning Block block_stands block_terms
block_meaning = wrapped_meaning state_view Block

pub block_plain_is_said : (s : BlockSym) (low high : ℤ) → block_plain s low high ↔ IsPlainState Block (block_terms s) low high
block_plain_is_said s low high = (λ is. is, λ is. is)

-- ---- what is asked about is given, or a literal

abbrev IsGivenOrLiteral : List PureTerm → PureTerm → Type 0
IsGivenOrLiteral args t = IsAmong t args ⊎ IsTrue (is_literal t)

if_given : (P : PureTerm → Type 0) (b : Bool) (ts : List PureTerm) → Each P ts → Each P (if b then ts else [])
if_given P true ts all = all
if_given P false ts all = tt

parts_given : (args : List PureTerm) (us : PureTerms) (ts : List PureTerm) → IsAmong (list_of us) args → Each (IsGivenOrLiteral args) (asked_parts us ts)
parts_given args us (l ∷ i ∷ []) among = if_given (IsGivenOrLiteral args) (may_be_address l i) _ (inl among, (inr refl, tt))
parts_given args us [] among = tt
parts_given args us (l ∷ []) among = tt
parts_given args us (l ∷ i ∷ t ∷ more) among = tt

address_given : (args : List PureTerm) (a : PureTerm) → IsAmong a args → Each (IsGivenOrLiteral args) (asked_of_address a)
address_given args (list_of ts) among = parts_given args ts (to_list ts) among
address_given args (literal k) among = if_given (IsGivenOrLiteral args) (allows (known_kind (literal k)) Kind.List) _ (inl among, tt)
address_given args (variable x) among = if_given (IsGivenOrLiteral args) (allows (known_kind (variable x)) Kind.List) _ (inl among, tt)
address_given args (unary_of op t) among = if_given (IsGivenOrLiteral args) (allows (known_kind (unary_of op t)) Kind.List) _ (inl among, tt)
address_given args (binary_of op s t) among = if_given (IsGivenOrLiteral args) (allows (known_kind (binary_of op s t)) Kind.List) _ (inl among, tt)

given : (op : Option BlockAction) (args : List PureTerm) → Each (IsGivenOrLiteral args) (asked_by op args)
given (Some BlockAction.Alloc) (n ∷ []) = if_given (IsGivenOrLiteral (n ∷ [])) (allows (known_kind n) Kind.Int) (n ∷ []) (inl (inl refl), tt)
given (Some BlockAction.Load) (a ∷ []) = address_given (a ∷ []) a (inl refl)
given (Some BlockAction.Store) (a ∷ t ∷ []) = address_given (a ∷ t ∷ []) a (inl refl)
given (Some BlockAction.Free) (a ∷ []) = address_given (a ∷ []) a (inl refl)
given op args = tt

-- what holds of each argument and of 0 holds of what is asked about
module _ (P : PureTerm → Type 0) (zero : P zero_term) where
  parts_hold : (us : PureTerms) (ts : List PureTerm) → P (list_of us) → Each P (asked_parts us ts)
  parts_hold us (l ∷ i ∷ []) is = if_given P (may_be_address l i) _ (is, (zero, tt))
  parts_hold us [] is = tt
  parts_hold us (l ∷ []) is = tt
  parts_hold us (l ∷ i ∷ t ∷ more) is = tt

  address_holds : (a : PureTerm) → P a → Each P (asked_of_address a)
  address_holds (list_of ts) is = parts_hold ts (to_list ts) is
  address_holds (literal k) is = if_given P (allows (known_kind (literal k)) Kind.List) _ (is, tt)
  address_holds (variable x) is = if_given P (allows (known_kind (variable x)) Kind.List) _ (is, tt)
  address_holds (unary_of op t) is = if_given P (allows (known_kind (unary_of op t)) Kind.List) _ (is, tt)
  address_holds (binary_of op s t) is = if_given P (allows (known_kind (binary_of op s t)) Kind.List) _ (is, tt)

  pub each_asked : (op : Option BlockAction) (args : List PureTerm) → Each P args → Each P (asked_by op args)
  each_asked (Some BlockAction.Alloc) (n ∷ []) all = if_given P (allows (known_kind n) Kind.Int) (n ∷ []) all
  each_asked (Some BlockAction.Alloc) [] all = tt
  each_asked (Some BlockAction.Alloc) (n ∷ t ∷ more) all = tt
  each_asked (Some BlockAction.Load) (a ∷ []) all = address_holds a all.0
  each_asked (Some BlockAction.Load) [] all = tt
  each_asked (Some BlockAction.Load) (a ∷ t ∷ more) all = tt
  each_asked (Some BlockAction.Store) (a ∷ t ∷ []) all = address_holds a all.0
  each_asked (Some BlockAction.Store) [] all = tt
  each_asked (Some BlockAction.Store) (a ∷ []) all = tt
  each_asked (Some BlockAction.Store) (a ∷ t ∷ s ∷ more) all = tt
  each_asked (Some BlockAction.Free) (a ∷ []) all = address_holds a all.0
  each_asked (Some BlockAction.Free) [] all = tt
  each_asked (Some BlockAction.Free) (a ∷ t ∷ more) all = tt
  each_asked None args all = tt

abbrev IsGivenAndAsked : List PureTerm → List PureTerm → PureTerm → Type 0
IsGivenAndAsked args asked t = IsAmong t args × IsAmong t asked

if_both : (b : Bool) (args : List PureTerm) (t : PureTerm) → IsAmong t args → Each (IsGivenAndAsked args (if b then t ∷ [] else [])) (if b then t ∷ [] else [])
if_both true args t among = ((among, inl refl), tt)
if_both false args t among = tt

address_formed : (args : List PureTerm) (a : PureTerm) → IsAmong a args → Each (IsGivenAndAsked args (asked_of_address a)) (formed_of_address a)
address_formed args (list_of ts) among = tt
address_formed args (literal k) among = if_both (allows (known_kind (literal k)) Kind.List) args (literal k) among
address_formed args (variable x) among = if_both (allows (known_kind (variable x)) Kind.List) args (variable x) among
address_formed args (unary_of op t) among = if_both (allows (known_kind (unary_of op t)) Kind.List) args (unary_of op t) among
address_formed args (binary_of op s t) among = if_both (allows (known_kind (binary_of op s t)) Kind.List) args (binary_of op s t) among

formed : (op : Option BlockAction) (args : List PureTerm) → Each (IsGivenAndAsked args (asked_by op args)) (formed_by op args)
formed (Some BlockAction.Alloc) (n ∷ []) = if_both (allows (known_kind n) Kind.Int) (n ∷ []) n (inl refl)
formed (Some BlockAction.Alloc) [] = tt
formed (Some BlockAction.Alloc) (n ∷ t ∷ more) = tt
formed (Some BlockAction.Load) (a ∷ []) = address_formed (a ∷ []) a (inl refl)
formed (Some BlockAction.Load) [] = tt
formed (Some BlockAction.Load) (a ∷ t ∷ more) = tt
formed (Some BlockAction.Store) (a ∷ t ∷ []) = address_formed (a ∷ t ∷ []) a (inl refl)
formed (Some BlockAction.Store) [] = tt
formed (Some BlockAction.Store) (a ∷ []) = tt
formed (Some BlockAction.Store) (a ∷ t ∷ s ∷ more) = tt
formed (Some BlockAction.Free) (a ∷ []) = address_formed (a ∷ []) a (inl refl)
formed (Some BlockAction.Free) [] = tt
formed (Some BlockAction.Free) (a ∷ t ∷ more) = tt
formed None args = tt

pub block_asks_its_arguments : AsksItsArguments block_asked
block_asks_its_arguments action args = (given (action_of action) args, formed (action_of action) args)
