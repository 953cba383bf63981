-- Matching plain items: each condition has a form of the fragment, and so nothing is left undecided.
use Rattle.std.specs.Prelude.{◌≡◌, ℕ, ◌+◌, ◌*◌, ◌^◌, ◌<◌, ◌≤◌, pos, neg_ℤ, List, [], ◌∷◌, length, ⊤}
use Rattle.gil_syntax.specs.Pure.{PurePredUse, PureItem, uses}
use Rattle.mem_model.specs.declared.keys.MemoryName.{MemoryName}
use Rattle.pure_terms.specs.Fragment.{InFragment}
use Rattle.pure_terms.specs.Pure.{PureTerm}
use Rattle.sym_evaluation.specs.Plainly.{IsPlain, IsPlainStore}
use Rattle.sym_evaluation.specs.Pure.{PureStore}
use Rattle.sym_model.specs.Lists.{Each}
use Rattle.sym_model.specs.Plain.{IsPlainState}
use Rattle.sym_model.specs.Terms.{StateTerms}
use Rattle.sym_paths.specs.Steps.{narrow_bound}
use Rattle.sym_paths.specs.Plain.{IsPlainItem}
use Rattle.sym_states.specs.Pure.{PureState}
use Rattle.sym_matching.specs.Plainly.{AreDecided}
use Rattle.footprint.specs.Pure.{PureMatch, PureLeaves, PureMatching, all_match, unmatched, unknown}

-- The law of plain memories is kept, and the memory is plain with numbers up to b.
pub record IsPlainMemory {S : Type 0} (memory : MemoryName) (keeps : Type 0) (terms : S → StateTerms) (b : ℕ) (s : S) : Type 0 where
  pub keeps_plain : keeps
  pub plain : IsPlainState memory (terms s) (neg_ℤ (pos b)) (pos b)

-- what each item may add to the numbers, and what taking a core predicate may, once its ins have terms
abbrev pub match_growth : ℕ
match_growth = 2 ^ 65

abbrev pub core_growth : ℕ
core_growth = 2 ^ 64

-- the bound of the numbers after so many items
abbrev pub widened : ℕ → ℕ → ℕ
widened n b = b + n * match_growth

-- how many items several assertions have
abbrev pub item_count : List (List PureItem) → ℕ
item_count [] = 0
item_count (items ∷ posts) = length items + item_count posts

-- it is matched, or surely not where conditions of the fragment are true
abbrev pub IsDecidedMatching : {S : Type 0} → PureMatching S → Type 0
IsDecidedMatching (all_match ms) = ⊤
IsDecidedMatching (unmatched c v) = InFragment c.conds
IsDecidedMatching (unknown conds reason) = ⊥

-- of the memories that are plain with numbers up to a bound
module _ {S : Type 0} (Plain : ℕ → S → Type 0) where
  -- the conditions are decided, with literals from -b to b, and memory and store are plain, over a table of few variables
  pub record IsPlainMatch (b : ℕ) (m : PureMatch S) : Type 0 where
    pub decided : AreDecided b m.state.conds
    pub plain_memory : Plain b m.state.memory
    pub store : IsPlainStore b m.store
    pub few : length m.state.vars < 2 ^ 40

  -- the same of each match; the conditions of each stop are decided, and none is left undecided
  pub record ArePlainLeaves (b : ℕ) (leaves : PureLeaves S) : Type 0 where
    pub matched : Each (IsPlainMatch b) leaves.matched
    pub stopped : Each (λ c. AreDecided b c.conds) leaves.stopped
    pub none_undecided : leaves.undecided ≡ []

  -- a plain use of a core predicate whose ins have these terms
  abbrev pub CoreStaysPlain : PurePredUse → List PureTerm → PureStore → PureState S → PureLeaves S → Type 0
  CoreStaysPlain u ins bs s leaves =
      (b : ℕ) → IsPlainItem (uses u) → b + core_growth ≤ narrow_bound → IsPlainMatch b (record { state = s; store = bs }) → Each (IsPlain b) ins
      → ArePlainLeaves (b + core_growth) leaves

  -- a plain item leads from a plain match to plain leaves, as long as the numbers are those of the fragment
  abbrev pub ItemStaysPlain : PureItem → PureMatch S → PureLeaves S → Type 0
  ItemStaysPlain item m leaves =
      (b : ℕ) → IsPlainItem item → b + match_growth ≤ narrow_bound → IsPlainMatch b m → ArePlainLeaves (b + match_growth) leaves

  abbrev pub ItemsStayPlain : List PureItem → PureMatch S → PureLeaves S → Type 0
  ItemsStayPlain items m leaves =
      (b : ℕ) → Each IsPlainItem items → widened (length items) b ≤ narrow_bound → IsPlainMatch b m
      → ArePlainLeaves (widened (length items) b) leaves

  -- from a state with decided conditions and a plain memory, and a plain store
  pub record IsPlainStart (b : ℕ) (posts : List (List PureItem)) (s : PureState S) (bs : PureStore) : Type 0 where
    pub items : Each (Each IsPlainItem) posts
    pub narrow : widened (item_count posts) b ≤ narrow_bound
    pub decided : AreDecided b s.conds
    pub plain_memory : Plain b s.memory
    pub store : IsPlainStore b bs
    pub few : length s.vars < 2 ^ 40

  abbrev pub PostsStayPlain : List (List PureItem) → PureState S → PureStore → PureLeaves S → Type 0
  PostsStayPlain posts s bs leaves = (b : ℕ) → IsPlainStart b posts s bs → ArePlainLeaves (widened (item_count posts) b) leaves

  -- Plain: consuming the first of several assertions of plain items, from a state with decided conditions and a plain memory and a plain
  -- store, comes to a match, or to one that surely isn't.
  abbrev pub ConsumesPlainly : List (List PureItem) → PureState S → PureStore → PureMatching S → Type 0
  ConsumesPlainly posts s bs answer = (b : ℕ) → IsPlainStart b posts s bs → IsDecidedMatching answer
