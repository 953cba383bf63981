-- The branches of the actions of records. Each case has the conditions under which it comes, the chunks after it and its result.
use Rattle.std.specs.Prelude.{ℕ, ◌+◌, Bool, false, if◌then◌else◌, List, [], ◌∷◌, ◌++◌, map, Option, Some, None}
use Rattle.std.specs.List.{remove}
use Rattle.gil_values.specs.declared.kinds.Kind.{Kind}
use Rattle.mem_model.specs.declared.failures.Failure.{Failure}
use Rattle.pure_terms.specs.declared.variables.Var.{Var}
use Rattle.pure_terms.specs.Kinds.{allows, known_kind}
use Rattle.pure_terms.specs.Pure.{PureTerm, variable, list_of, to_list}
use Rattle.record_heap.specs.declared.actions.RecordAction.{RecordAction}
use Rattle.record_sym.specs.Places.{lists_not, opened, lacks, undescribed}
use Rattle.sym_chunks.specs.Arguments.{checked, no_property, is_property, wrong_number, unknown_action, may_be_symbol, may_be_property}
use Rattle.sym_chunks.specs.ByPlace.{all_by_place, any_at}
use Rattle.sym_chunks.specs.Cases.{ChunkBranches, PureCase, PureAccess, reads, writes, case_of, branches_of, found, gone_case, failure, true_term, null_term, missed_key, missed_name}
use Rattle.sym_chunks.specs.Forms.{form_of}
use Rattle.sym_chunks.specs.NameTerms.{distinct_from}
use Rattle.sym_chunks.specs.Walking.{way_of, walk}
use Rattle.sym_model.specs.Alternatives.{Alternatives, always, any, same, of_kind, not_of_kind}
use Rattle.sym_model.specs.Pure.{PureSub, named, shape, PureChunk, done}

-- ---- `lookup` and `mutate`

-- l is gone; it lists its names, and p is none of them; its names are needed, which no list term gives; nothing tells of p
abbrev pub without_name : PureTerm → PureTerm → List PureChunk → List PureCase
without_name l p cs =
    gone_case l cs
    ++ (case_of (any_at l (lists_not p) cs) cs (failure Failure.Absent)
    ++ (case_of (opened l p cs) cs (missed_name l p)
    ++ case_of (all_by_place l (lacks p cs) cs) cs (missed_name l p)))

abbrev pub name_cases : PureAccess → PureTerm → PureTerm → List PureChunk → List PureCase
name_cases a l p cs = found a l (named p) cs ++ without_name l p cs

-- ---- `new`

-- some element is no text, or two are equal
abbrev pub faulty : List PureTerm → Alternatives
faulty [] = []
faulty (d ∷ ds) = not_of_kind d Kind.Str ++ (any (same d) ds ++ faulty ds)

abbrev pub name_chunk : Var → PureTerm → PureChunk
name_chunk x d = record { loc = variable x; sub = named d; val = null_term }

-- the chunks with those of a new record
abbrev pub created : Var → PureTerm → List PureTerm → List PureChunk → List PureChunk
created x d names cs = (cs ++ map (name_chunk x) names) ++ record { loc = variable x; sub = shape; val = d } ∷ []

-- the names are distinct texts, and the record is made; or their literal form is needed where they are a list
abbrev pub make : Var → PureTerm → List PureChunk → ChunkBranches
make x (list_of ds) cs =
    branches_of (faulty (to_list ds)) cs (failure Failure.Kind)
    ++ branches_of (distinct_from always (to_list ds)) (created x (list_of ds) (to_list ds) cs) (done (variable x))
make x d cs =
    branches_of (not_of_kind d Kind.List) cs (failure Failure.Kind)
    ++ branches_of (form_of d (of_kind d Kind.List)) cs (done (variable x))

-- ---- `dispose`

-- The chunk at a place has the names of l: a list term, and they are taken one after another; or their literal form is needed.
abbrev pub disposed_there : PureTerm → List PureChunk → ℕ → PureTerm → PureSub → PureTerm → List PureCase
disposed_there l cs i m shape (list_of ds) = walk cs m (map named (to_list ds)) (way_of (same l m) (remove cs i))
disposed_there l cs i m shape t = case_of (form_of t (same l m)) cs (done true_term)
disposed_there l cs i m _ t = []

abbrev pub disposed_from : PureTerm → List PureChunk → ℕ → List PureChunk → List PureCase
disposed_from l cs i [] = []
disposed_from l cs i (c ∷ rest) = disposed_there l cs i c.loc c.sub c.val ++ disposed_from l cs (i + 1) rest

-- l is gone; a chunk has its names; none has
abbrev pub dispose_cases : PureTerm → List PureChunk → List PureCase
dispose_cases l cs =
    gone_case l cs ++ (disposed_from l cs 0 cs ++ case_of (all_by_place l undescribed cs) cs (missed_key l shape))

-- ---- the branches of each action

abbrev pub act_new : Option Var → List PureTerm → List PureChunk → ChunkBranches
act_new (Some x) (d ∷ []) cs = make x d cs
act_new None (d ∷ []) cs = []
act_new fresh _ cs = wrong_number cs

abbrev pub act_lookup : List PureTerm → List PureChunk → ChunkBranches
act_lookup (l ∷ p ∷ []) cs = checked (no_property l p) (is_property l p) cs (name_cases reads l p cs)
act_lookup _ cs = wrong_number cs

abbrev pub act_mutate : List PureTerm → List PureChunk → ChunkBranches
act_mutate (l ∷ p ∷ t ∷ []) cs = checked (no_property l p) (is_property l p) cs (name_cases (writes t) l p cs)
act_mutate _ cs = wrong_number cs

abbrev pub act_dispose : List PureTerm → List PureChunk → ChunkBranches
act_dispose (l ∷ []) cs = checked (not_of_kind l Kind.Sym) (of_kind l Kind.Sym) cs (dispose_cases l cs)
act_dispose _ cs = wrong_number cs

abbrev pub branches_by : RecordAction → Option Var → List PureTerm → List PureChunk → ChunkBranches
branches_by RecordAction.New fresh args cs = act_new fresh args cs
branches_by RecordAction.Lookup fresh args cs = act_lookup args cs
branches_by RecordAction.Mutate fresh args cs = act_mutate args cs
branches_by RecordAction.Dispose fresh args cs = act_dispose args cs

abbrev pub table : Option RecordAction → Option Var → List PureTerm → List PureChunk → ChunkBranches
table (Some op) fresh args cs = branches_by op fresh args cs
table None fresh args cs = unknown_action cs

-- ---- what is asked about

-- there are as many arguments as the action takes, and those whose kinds are known are of the right ones
abbrev pub may_be_taken : RecordAction → List PureTerm → Bool
may_be_taken RecordAction.New (d ∷ []) = allows (known_kind d) Kind.List
may_be_taken RecordAction.Lookup (l ∷ p ∷ []) = may_be_property l p
may_be_taken RecordAction.Mutate (l ∷ p ∷ t ∷ []) = may_be_property l p
may_be_taken RecordAction.Dispose (l ∷ []) = may_be_symbol l
may_be_taken op args = false

-- all but the value that `mutate` stores
abbrev pub unstored : RecordAction → List PureTerm → List PureTerm
unstored RecordAction.Mutate (l ∷ p ∷ more) = l ∷ p ∷ []
unstored op args = args

-- the arguments that an action asks about; none where its name, their number or a known kind makes it fail
abbrev pub asked_by : Option RecordAction → List PureTerm → List PureTerm
asked_by (Some op) args = if may_be_taken op args then unstored op args else []
asked_by None args = []

-- those whose literal form an action may need by itself: the names that `new` is given
abbrev pub formed_by : Option RecordAction → List PureTerm → List PureTerm
formed_by (Some RecordAction.New) args = asked_by (Some RecordAction.New) args
formed_by (Some RecordAction.Lookup) args = []
formed_by (Some RecordAction.Mutate) args = []
formed_by (Some RecordAction.Dispose) args = []
formed_by None args = []
