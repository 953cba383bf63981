-- What the words say, under a valuation.
use Rattle.std.specs.Prelude.{◌≡◌, ◌↔◌, ℕ, ℤ, ◌≤ℤ◌, ◌<ℤ◌, List, Some, IsTrue}
use Rattle.gil_values.specs.Pure.{PureValue, integer, symbol}
use Rattle.mem_model.specs.declared.keys.Key.{Key}
use Rattle.pure_terms.specs.declared.variables.Sort.{Sort}
use Rattle.pure_terms.specs.Meaning.{value, all_true, IsProper, IsOver}
use Rattle.pure_terms.specs.Pure.{PureTerm}
use Rattle.sym_chunks.specs.ByPlace.{all_by_place}
use Rattle.sym_chunks.specs.Cases.{PureCase, choose}
use Rattle.sym_chunks.specs.Keys.{other_sub, at_key}
use Rattle.sym_chunks.specs.Ordering.{less, at_most}
use Rattle.sym_model.specs.Alternatives.{Alternatives, Hold}
use Rattle.sym_model.specs.ConditionLaws.{HaveBoth}
use Rattle.sym_model.specs.Lists.{Each, OneOf}
use Rattle.sym_model.specs.Meaning.{key_value}
use Rattle.sym_model.specs.Pure.{PureSub, PureChunk, sub_terms}

-- `less` and `at_most` hold of two numbers exactly where they are ordered so
pub record NumbersAreOrdered : Type 0 where
  pub below : (vars : List Sort) (v : List PureValue) (s t : PureTerm) (m n : ℤ) → HaveBoth vars v s t (integer m) (integer n)
      → Hold v (less s t) ↔ (m <ℤ n)
  pub not_above : (vars : List Sort) (v : List PureValue) (s t : PureTerm) (m n : ℤ) → HaveBoth vars v s t (integer m) (integer n)
      → Hold v (at_most s t) ↔ (m ≤ℤ n)

-- a location with its symbol
pub record IsLocation (vars : List Sort) (v : List PureValue) (l : PureTerm) (a : ℕ) : Type 0 where
  pub over : IsOver vars l
  pub is : value v l ≡ Some (symbol a)

-- a location and a subkey with the key for which they stand
pub record IsKeyOf (vars : List Sort) (v : List PureValue) (l : PureTerm) (s : PureSub) (k : Key) : Type 0 where
  pub over_loc : IsOver vars l
  pub over_sub : Each (IsOver vars) (sub_terms s)
  pub is : key_value v l s ≡ Some k

-- a chunk is that of a key exactly where its own key is this one, and its subkey another exactly where its key's is
pub record KeysAreTold : Type 0 where
  pub same : (vars : List Sort) (v : List PureValue) (l : PureTerm) (s : PureSub) (k : Key) (c : PureChunk) (q : Key) → IsProper vars v
      → IsKeyOf vars v l s k → IsKeyOf vars v c.loc c.sub q → Hold v (at_key l s c) ↔ (q ≡ k)
  pub other : (vars : List Sort) (v : List PureValue) (l : PureTerm) (s : PureSub) (k : Key) (c : PureChunk) (q : Key) → IsProper vars v
      → IsKeyOf vars v l s k → IsKeyOf vars v c.loc c.sub q → Hold v (other_sub s c.sub) ↔ (¬ (q.sub ≡ k.sub))

-- a condition on each chunk of a location holds exactly where it holds of each chunk that lies there
abbrev pub ChunksAreToldByPlace : Type 0
ChunksAreToldByPlace =
    (vars : List Sort) (v : List PureValue) (l : PureTerm) (a : ℕ) (f : PureChunk → Alternatives) (cs : List PureChunk) → IsProper vars v
    → IsLocation vars v l a → Each (λ c. (b : ℕ) × IsLocation vars v c.loc b) cs
    → Hold v (all_by_place l f cs) ↔ Each (λ c. value v c.loc ≡ Some (symbol a) → Hold v (f c)) cs

-- Of the branches that are chosen one whose conditions are true is that of a case that comes; and where `when` holds and some case
-- comes, there is such a branch.
pub record CasesAreChosen : Type 0 where
  pub exact : (v : List PureValue) (when : Alternatives) (cases : List PureCase)
      → Each (λ b. IsTrue (all_true v b.conds)
      → Hold v when × OneOf (λ c. Hold v c.when × ((b.state ≡ c.after) × (b.result ≡ c.result))) cases) (choose when cases)
  pub cover : (v : List PureValue) (when : Alternatives) (cases : List PureCase) → Hold v when → OneOf (λ c. Hold v c.when) cases
      → OneOf (λ b. IsTrue (all_true v b.conds)) (choose when cases)
