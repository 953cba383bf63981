-- What adding plain items to plain states gives.
use Rattle.std.proofs.Common.{◌≡◌, ◌↔◌, ℕ, ◌+◌, ◌*◌, ◌≤◌, ℤ, pos, neg_ℤ, ◌-ℤ◌, ◌+ℤ◌, ◌≤ℤ◌, arith, List, [], ◌∷◌, ◌++◌, true, IsTrue, sym, ◌∙◌}
use Rattle.std.specs.List.{list_all}
use Rattle.std.proofs.lemmas.Bool.{and_parts}
use Rattle.std.proofs.lemmas.Int.{ints}
use Rattle.std.proofs.lemmas.List.Folds.{list_all-append}
use Rattle.gil_syntax.specs.Pure.{PureExpr, PurePredUse, pure, uses}
use Rattle.gil_syntax.specs.Subexpressions.{literals_of}
use Rattle.gil_syntax.specs.WellMade.{is_spellable}
use Rattle.mem_model.specs.declared.keys.MemoryName.{MemoryName}
use Rattle.pure_terms.specs.declared.variables.Sort.{Sort}
use Rattle.pure_terms.specs.Pure.{PureTerm, PureAtom}
use Rattle.sym_evaluation.specs.Meaning.{AreCasesOf, AreCasesOfAll}
use Rattle.sym_evaluation.specs.Plainly.{IsPlain, IsPlainGuard, text_bound, has_text_numbers}
use Rattle.sym_evaluation.specs.Pure.{PureStore, PureCases}
use Rattle.sym_evaluation.specs.Questions.{ComesFrom, AllComeFrom}
use Rattle.sym_model.specs.CoreLaws.{ProducesPlainly}
use Rattle.sym_model.specs.Laws.{IsPlainWithin, IsDecidedWithin, growth}
use Rattle.sym_model.specs.Lists.{Each}
use Rattle.sym_model.specs.Plain.{IsPlainState}
use Rattle.sym_model.specs.Pure.{PureBranch, result_terms}
use Rattle.sym_model.specs.Terms.{StateTerms, all_of}
use Rattle.sym_model.proofs.ListLaws.{each_append, each_to}
use Rattle.sym_model.proofs.Wider.{plain_wider, decided_wider, lower_bound, higher_bound}
use Rattle.sym_paths.specs.PlainLaws.{IsPlainOver, PlainExpressionsAskNothing}
use Rattle.sym_paths.specs.Plain.{IsPlainItem, AsksNothing, is_plain_argument}
use Rattle.sym_states.specs.Plainly.{IsPlainWith, ProducesPlainStates, item_growth}
use Rattle.sym_states.specs.Producing.{are_spelled}
use Rattle.sym_states.specs.Pure.{PureState, PureArguments}

-- ---- expressions

-- the cases of a pure item of a plain form have no condition, and its term is a plain guard
abbrev pub AsksPlainly : PureStore → PureExpr → PureCases PureTerm → Type 0
AsksPlainly bs e cases = (b : ℕ) (vars : List Sort) → IsPlainOver vars b bs → IsPlainItem (pure e) → AsksNothing (IsPlainGuard (b + text_bound)) cases

pub form_asks : PlainExpressionsAskNothing → (bs : PureStore) (e : PureExpr) (cases : PureCases PureTerm) → AreCasesOf bs e cases → ComesFrom bs e cases → IsTrue (are_spelled (e ∷ []))
    → AsksPlainly bs e cases
form_asks laws bs e cases says from spelled b vars over item =
    laws.form bs e cases vars b says from over item.form (and_parts (has_text_numbers e) true item.numbers).0 (and_parts (list_all is_spellable (literals_of e)) true spelled).0

-- the same of arguments
abbrev pub ArgumentsAskPlainly : PureStore → List PureExpr → PureCases (List PureTerm) → Type 0
ArgumentsAskPlainly bs es cases =
    (b : ℕ) (vars : List Sort) → IsPlainOver vars b bs → IsTrue (list_all is_plain_argument es) → IsTrue (list_all has_text_numbers es) → AsksNothing (Each (IsPlain (b + text_bound))) cases

pub arguments_ask : PlainExpressionsAskNothing → (bs : PureStore) (es : List PureExpr) (cases : PureCases (List PureTerm)) → AreCasesOfAll bs es cases → AllComeFrom bs es cases → IsTrue (are_spelled es)
    → ArgumentsAskPlainly bs es cases
arguments_ask laws bs es cases says from spelled b vars over plain numbers = laws.arguments bs es cases vars b says from over plain numbers spelled

pub number_parts : (u : PurePredUse) → IsPlainItem (uses u) → IsTrue (list_all has_text_numbers u.ins) × IsTrue (list_all has_text_numbers u.outs)
number_parts u item = and_parts (list_all has_text_numbers u.ins) (list_all has_text_numbers u.outs) (sym (list_all-append has_text_numbers u.ins u.outs) ∙ item.numbers)

-- ---- states

pub plain_up : (b d : ℕ) → b ≤ d → (t : PureTerm) → IsPlain b t → IsPlain d t
plain_up b d le t is = plain_wider (neg_ℤ (pos b)) (pos b) (neg_ℤ (pos d)) (pos d) (lower_bound b d le) (higher_bound b d le) t is

pub decided_up : (b d : ℕ) → b ≤ d → (a : PureAtom) → IsDecidedWithin (neg_ℤ (pos b)) (pos b) a → IsDecidedWithin (neg_ℤ (pos d)) (pos d) a
decided_up b d le a is = decided_wider (neg_ℤ (pos b)) (pos b) (neg_ℤ (pos d)) (pos d) (lower_bound b d le) (higher_bound b d le) a is

module _ {S : Type 0} (memory : MemoryName) (terms : S → StateTerms) where
  pub state_up : (b d : ℕ) → b ≤ d → (s : PureState S) → IsPlainWith memory terms b s → IsPlainWith memory terms d s
  state_up b d le s from = record {
    decided = each_to (IsDecidedWithin (neg_ℤ (pos b)) (pos b)) (IsDecidedWithin (neg_ℤ (pos d)) (pos d)) s.conds (decided_up b d le) from.decided;
    plain_memory = record {
      plain = each_to (IsPlain b) (IsPlain d) (all_of (terms s.memory)) (plain_up b d le) from.plain_memory.plain;
      described = from.plain_memory.described;
    };
    no_facts = from.no_facts;
  }

  -- the state with decided conditions more
  pub with_conds : (b d : ℕ) → b ≤ d → (s : PureState S) (more : List PureAtom) → IsPlainWith memory terms b s → Each (IsDecidedWithin (neg_ℤ (pos d)) (pos d)) more
      → IsPlainWith memory terms d (record s { conds = s.conds ++ more })
  with_conds b d le s more from decided =
      let wide = state_up b d le s from in
      record {
        decided = each_append (IsDecidedWithin (neg_ℤ (pos d)) (pos d)) s.conds more wide.decided decided;
        plain_memory = wide.plain_memory;
        no_facts = wide.no_facts;
      }

-- ---- production

pub produces_plain : {S : Type 0} (memory : MemoryName) (terms : S → StateTerms) (plain : S → ℤ → ℤ → Type 0) → ((s : S) (low high : ℤ) → plain s low high ↔ IsPlainState memory (terms s) low high)
    → (core : List ℕ) (a : PureArguments) (s : S) (bs : List (PureBranch S)) → ProducesPlainly plain core a.ins a.outs s bs → ProducesPlainStates memory terms core a s bs
produces_plain {S} memory terms plain said core a s bs plainly low high is takes =
    let least : ℤ = low -ℤ growth in
    let greatest : ℤ = high +ℤ growth in
    each_to (λ (b : PureBranch S). Each (IsDecidedWithin least greatest) b.conds × (plain b.state least greatest × Each (IsPlainWithin least greatest) (result_terms b.result)))
    (λ (b : PureBranch S). Each (IsDecidedWithin least greatest) b.conds × IsPlainState memory (terms b.state) least greatest) bs (λ b there. (there.0, (said b.state least greatest).0 there.1.0))
    (plainly low high ((said s low high).1 is) takes)

-- ---- numbers

pub one_more : (b n : ℕ) → (b + n * item_growth) + item_growth ≡ b + (n + 1) * item_growth
one_more b n = omega arith

pub no_less : (b n : ℕ) → b ≤ b + n * item_growth
no_less b n = omega arith

pub reaches_more : (b d n : ℕ) → d ≤ b → d ≤ b + n * item_growth
reaches_more b d n below = omega (arith, below)

-- the bounds of production
pub lower_more : (b : ℕ) → (neg_ℤ (pos b) -ℤ pos 10000) ≡ neg_ℤ (pos (b + 10000))
lower_more b = grind (arith, ints)

pub higher_more : (b : ℕ) → (pos b +ℤ pos 10000) ≡ pos (b + 10000)
higher_more b = grind (arith, ints)

pub below_zero : (b : ℕ) → neg_ℤ (pos b) ≤ℤ pos 0
below_zero b = omega (arith, ints)

pub above_zero : (b : ℕ) → pos 0 ≤ℤ pos b
above_zero b = omega (arith, ints)
