-- Cases of actions: the conditions under which each comes, the chunks after it and its result.
use Rattle.std.specs.Prelude.{◌≡◌, ℕ, ◌+◌, List, [], ◌∷◌, ◌++◌, map, true, if◌then◌else◌, Option, Some, None}
use Rattle.std.specs.List.{flat_map, list_any, remove}
use Rattle.gil_values.specs.declared.kinds.Kind.{Kind}
use Rattle.mem_model.specs.declared.failures.Failure.{Failure}
use Rattle.mem_model.specs.Tables.{failure_text}
use Rattle.pure_terms.specs.declared.literals.Literal.{Literal}
use Rattle.pure_terms.specs.Pure.{PureTerm, literal, list_of, from_list, PureAtom}
use Rattle.sym_chunks.specs.Keys.{at_key}
use Rattle.sym_model.specs.Alternatives.{Alternatives, both, any, settled, is_empty}
use Rattle.sym_model.specs.Chunks.{with_held}
use Rattle.sym_model.specs.Pure.{PureSub, named, gone, PureChunk, PureResult, done, failed, missed, PureBranch}

abbrev pub ChunkBranches : Type 0
ChunkBranches = List (PureBranch (List PureChunk))

-- ---- results

abbrev pub failure : Failure → PureResult
failure f = failed (literal (Literal.Str (failure_text f)))

abbrev pub true_term : PureTerm
true_term = literal (Literal.Bool true)

abbrev pub null_term : PureTerm
null_term = literal (Literal.Kind Kind.Null)

abbrev pub missed_key : PureTerm → PureSub → PureResult
missed_key l s = missed (record { loc = l; sub = s })

abbrev pub missed_name : PureTerm → PureTerm → PureResult
missed_name l p = missed_key l (named p)

-- ---- cases

pub record PureCase : Type 0 where
  pub when : Alternatives
  pub after : List PureChunk
  pub result : PureResult

-- a case that may come, and none where there is no alternative
abbrev pub case_of : Alternatives → List PureChunk → PureResult → List PureCase
case_of [] cs r = []
case_of (conds ∷ x) cs r = record { when = conds ∷ x; after = cs; result = r } ∷ []

abbrev pub branch_with : List PureChunk → PureResult → List PureAtom → PureBranch (List PureChunk)
branch_with cs r conds = record { conds = conds; state = cs; result = r }

-- a branch for each alternative; one alone where one has no condition
abbrev pub branches_of : Alternatives → List PureChunk → PureResult → ChunkBranches
branches_of when cs r = map (λ conds. branch_with cs r conds) (settled when)

abbrev pub case_branches : Alternatives → PureCase → ChunkBranches
case_branches when c = branches_of (both when c.when) c.after c.result

-- the first case that surely comes
abbrev pub sure_case : List PureCase → Option PureCase
sure_case [] = None
sure_case (c ∷ cs) = if list_any is_empty c.when then Some c else sure_case cs

abbrev pub choose_by : Alternatives → List PureCase → Option PureCase → ChunkBranches
choose_by when cases (Some c) = branches_of when c.after c.result
choose_by when cases None = flat_map (case_branches when) cases

-- where `when` holds, the branches of a case that surely comes alone, and else those of every case
abbrev pub choose : Alternatives → List PureCase → ChunkBranches
choose when cases = choose_by when cases (sure_case cases)

-- the branches of the cases are those of these
abbrev pub AreChosenAs : List PureCase → List PureCase → Type 0
AreChosenAs cases others = (when : Alternatives) → choose when cases ≡ choose when others

-- ---- chunks that are found

-- what is done with a chunk: its value is read, it holds another term then, or it is taken out and its value listed
pub data PureAccess : Type 0 where
  reads : PureAccess
  writes : PureTerm → PureAccess
  takes : PureAccess

abbrev pub accessed : PureAccess → List PureChunk → ℕ → List PureChunk
accessed reads cs i = cs
accessed (writes t) cs i = with_held cs i t
accessed takes cs i = remove cs i

-- the outs of a chunk's core predicate, as a list term
abbrev pub outs_term : PureSub → PureTerm → PureTerm
outs_term gone t = list_of (from_list [])
outs_term s t = list_of (from_list (t ∷ []))

abbrev pub outs_listed : PureChunk → PureTerm
outs_listed c = outs_term c.sub c.val

abbrev pub given_back : PureAccess → PureChunk → PureResult
given_back reads c = done c.val
given_back (writes t) c = done t
given_back takes c = done (outs_listed c)

-- a case for each chunk that may be that of the subkey s of l
abbrev pub found_from : PureAccess → PureTerm → PureSub → List PureChunk → ℕ → List PureChunk → List PureCase
found_from a l s cs i [] = []
found_from a l s cs i (c ∷ rest) = case_of (at_key l s c) (accessed a cs i) (given_back a c) ++ found_from a l s cs (i + 1) rest

abbrev pub found : PureAccess → PureTerm → PureSub → List PureChunk → List PureCase
found a l s cs = found_from a l s cs 0 cs

-- l is gone, where an action fails
abbrev pub gone_case : PureTerm → List PureChunk → List PureCase
gone_case l cs = case_of (any (at_key l gone) cs) cs (failure Failure.Gone)
