-- The branches of the actions of objects. Each case has the conditions under which it comes, the chunks after it and its result.
use Rattle.std.specs.Prelude.{ℕ, ◌+◌, List, [], ◌∷◌, ◌++◌, Bool, false, ◌&&◌, ◌||◌, if◌then◌else◌, Option, Some, None}
use Rattle.std.specs.List.{remove}
use Rattle.gil_values.specs.declared.kinds.Kind.{Kind}
use Rattle.object_heap.specs.declared.actions.ObjectAction.{ObjectAction}
use Rattle.object_sym.specs.Places.{lists, lists_not, opened, untold, knows_not, lacks}
use Rattle.pure_terms.specs.declared.literals.Literal.{Literal}
use Rattle.pure_terms.specs.declared.variables.Var.{Var}
use Rattle.pure_terms.specs.Kinds.{allows, known_kind}
use Rattle.pure_terms.specs.Pure.{PureTerm, literal, variable, list_of, from_list, to_list}
use Rattle.sym_chunks.specs.Arguments.{wrong_number, checked, no_property, is_property, unknown_action, may_be_symbol, may_be_property}
use Rattle.sym_chunks.specs.ByPlace.{all_by_place, any_at}
use Rattle.sym_chunks.specs.Cases.{ChunkBranches, PureCase, PureAccess, reads, writes, case_of, found, true_term, null_term, missed_key, missed_name}
use Rattle.sym_chunks.specs.Forms.{form_of}
use Rattle.sym_chunks.specs.Keys.{same_sub, other_sub, at_key}
use Rattle.sym_chunks.specs.NameTerms.{unlisted}
use Rattle.sym_model.specs.Alternatives.{Alternatives, always, both, same, other, of_kind, not_of_kind}
use Rattle.sym_model.specs.Chunks.{with_held}
use Rattle.sym_model.specs.Pure.{PureSub, named, dom, proto, PureChunk, done}

-- ---- literals

abbrev pub false_term : PureTerm
false_term = literal (Literal.Bool false)

abbrev pub undef_term : PureTerm
undef_term = literal (Literal.Kind Kind.Undef)

abbrev pub no_names : PureTerm
no_names = list_of (from_list [])

-- ---- prototypes

-- the value is a symbol or Null, or it is neither
abbrev pub is_prototype : PureTerm → Alternatives
is_prototype v = of_kind v Kind.Sym ++ same v null_term

abbrev pub is_no_prototype : PureTerm → Alternatives
is_no_prototype v = both (not_of_kind v Kind.Sym) (other v null_term)

-- ---- `new`

abbrev pub created : Var → PureTerm → List PureChunk → List PureChunk
created x v cs =
    (cs ++ record { loc = variable x; sub = dom; val = no_names } ∷ []) ++ record { loc = variable x; sub = proto; val = v } ∷ []

abbrev pub new_cases : Var → PureTerm → List PureChunk → List PureCase
new_cases x v cs = case_of always (created x v cs) (done (variable x))

-- ---- where no chunk is that of the name p of l, and none tells that l has no p

-- the names of l are needed, which no list term gives; nothing tells of p
abbrev pub without_name : PureTerm → PureTerm → List PureChunk → List PureCase
without_name l p cs =
    case_of (opened l p cs) cs (missed_name l p) ++ case_of (all_by_place l (lacks p cs) cs) cs (missed_name l p)

-- ---- `get`

abbrev pub get_cases : PureTerm → PureTerm → List PureChunk → List PureCase
get_cases l p cs =
    found reads l (named p) cs ++ (case_of (any_at l (lists_not p) cs) cs (done undef_term) ++ without_name l p cs)

-- ---- `set`

-- the list of names at a place with p at its end, and p with its value
abbrev pub with_name : List PureChunk → ℕ → PureTerm → List PureTerm → PureTerm → PureTerm → List PureChunk
with_name cs i loc ds p t =
    with_held cs i (list_of (from_list (ds ++ p ∷ []))) ++ record { loc = loc; sub = named p; val = t } ∷ []

-- the chunk at a place lists the names of l, and p is none of them
abbrev pub added_there : PureTerm → PureTerm → PureTerm → List PureChunk → ℕ → PureTerm → PureSub → PureTerm → List PureCase
added_there l p t cs i loc dom (list_of ds) =
    case_of (both (same l loc) (unlisted p (list_of ds))) (with_name cs i loc (to_list ds) p t) (done t)
added_there l p t cs i loc _ val = []

abbrev pub added_from : PureTerm → PureTerm → PureTerm → List PureChunk → ℕ → List PureChunk → List PureCase
added_from l p t cs i [] = []
added_from l p t cs i (c ∷ rest) = added_there l p t cs i c.loc c.sub c.val ++ added_from l p t cs (i + 1) rest

abbrev pub set_cases : PureTerm → PureTerm → PureTerm → List PureChunk → List PureCase
set_cases l p t cs = found (writes t) l (named p) cs ++ (added_from l p t cs 0 cs ++ without_name l p cs)

-- ---- `delete`

-- where y holds, the chunk at each place, if it is that of the key s of a location, is taken out
abbrev pub taken_from : Alternatives → PureTerm → PureSub → List PureChunk → ℕ → List PureChunk → List PureCase
taken_from y loc s less i [] = []
taken_from y loc s less i (c ∷ rest) =
    case_of (both y (at_key loc s c)) (remove less i) (done true_term) ++ taken_from y loc s less (i + 1) rest

-- where y holds, the name e of a location is taken out of the chunks, whose list has no e any more, or it is missing
abbrev pub taken : Alternatives → PureTerm → PureTerm → List PureChunk → List PureChunk → PureTerm → PureTerm → List PureCase
taken [] l p cs less loc e = []
taken (conds ∷ y) l p cs less loc e =
    taken_from (conds ∷ y) loc (named e) less 0 cs
    ++ case_of (both (conds ∷ y) (all_by_place loc (λ c. other_sub (named e) c.sub) cs)) cs (missed_name l p)

-- the chunks, whose list at a place has these names
abbrev pub relisted : List PureChunk → ℕ → List PureTerm → List PureChunk
relisted cs i ds = with_held cs i (list_of (from_list ds))

-- p is one of the elements of the list at a place, after those before
abbrev pub taken_each : PureTerm → PureTerm → List PureChunk → ℕ → PureTerm → List PureTerm → List PureTerm → List PureCase
taken_each l p cs i loc before [] = []
taken_each l p cs i loc before (e ∷ es) =
    taken (both (same l loc) (same p e)) l p cs (relisted cs i (before ++ es)) loc e
    ++ taken_each l p cs i loc (before ++ e ∷ []) es

-- the chunk at a place has the names of l: p is none of them, or one; or they are needed, and no list term gives them
abbrev pub deleted_there : PureTerm → PureTerm → List PureChunk → ℕ → PureTerm → PureSub → PureTerm → List PureCase
deleted_there l p cs i loc dom (list_of ds) =
    case_of (both (same l loc) (unlisted p (list_of ds))) cs (done true_term) ++ taken_each l p cs i loc [] (to_list ds)
deleted_there l p cs i loc dom val = case_of (form_of val (same l loc)) cs (done true_term)
deleted_there l p cs i loc _ val = []

abbrev pub deleted_from : PureTerm → PureTerm → List PureChunk → ℕ → List PureChunk → List PureCase
deleted_from l p cs i [] = []
deleted_from l p cs i (c ∷ rest) = deleted_there l p cs i c.loc c.sub c.val ++ deleted_from l p cs (i + 1) rest

abbrev pub delete_cases : PureTerm → PureTerm → List PureChunk → List PureCase
delete_cases l p cs = deleted_from l p cs 0 cs ++ case_of (all_by_place l (λ c. other_sub dom c.sub) cs) cs (missed_key l dom)

-- ---- `has`: by the list of names where a list term gives it, and else by the chunks

-- the names of l are listed, and p is one of them, or none
abbrev pub told_cases : PureTerm → PureTerm → List PureChunk → List PureCase
told_cases l p cs =
    case_of (any_at l (lists p) cs) cs (done true_term) ++ case_of (any_at l (lists_not p) cs) cs (done false_term)

-- they aren't listed, and some chunk is that of p
abbrev pub held_case : PureTerm → PureTerm → List PureChunk → List PureCase
held_case l p cs = case_of (both (all_by_place l untold cs) (any_at l (λ c. same_sub (named p) c.sub) cs)) cs (done true_term)

-- they are needed, which no list term gives; or nothing is known of them
abbrev pub unknown_cases : PureTerm → PureTerm → List PureChunk → List PureCase
unknown_cases l p cs =
    case_of (opened l p cs) cs (done true_term) ++ case_of (all_by_place l (knows_not p) cs) cs (missed_name l p)

abbrev pub has_cases : PureTerm → PureTerm → List PureChunk → List PureCase
has_cases l p cs = told_cases l p cs ++ (held_case l p cs ++ unknown_cases l p cs)

-- ---- `getproto` and `setproto`

abbrev pub prototype_cases : PureAccess → PureTerm → List PureChunk → List PureCase
prototype_cases a l cs = found a l proto cs ++ case_of (all_by_place l (λ c. other_sub proto c.sub) cs) cs (missed_key l proto)

-- the branches of an action that takes a location and a name
abbrev pub of_property : List PureTerm → List PureChunk → (PureTerm → PureTerm → List PureCase) → ChunkBranches
of_property (l ∷ p ∷ []) cs cases = checked (no_property l p) (is_property l p) cs (cases l p)
of_property _ cs cases = wrong_number cs

-- ---- the branches of each action

abbrev pub set_branches : List PureTerm → List PureChunk → ChunkBranches
set_branches (l ∷ p ∷ t ∷ []) cs = checked (no_property l p) (is_property l p) cs (set_cases l p t cs)
set_branches _ cs = wrong_number cs

abbrev pub getproto_branches : List PureTerm → List PureChunk → ChunkBranches
getproto_branches (l ∷ []) cs = checked (not_of_kind l Kind.Sym) (of_kind l Kind.Sym) cs (prototype_cases reads l cs)
getproto_branches _ cs = wrong_number cs

abbrev pub setproto_branches : List PureTerm → List PureChunk → ChunkBranches
setproto_branches (l ∷ v ∷ []) cs =
    checked (not_of_kind l Kind.Sym ++ is_no_prototype v) (both (of_kind l Kind.Sym) (is_prototype v)) cs (prototype_cases (writes v) l cs)
setproto_branches _ cs = wrong_number cs

abbrev pub new_branches : Option Var → List PureTerm → List PureChunk → ChunkBranches
new_branches (Some x) (v ∷ []) cs = checked (is_no_prototype v) (is_prototype v) cs (new_cases x v cs)
new_branches None (v ∷ []) cs = []
new_branches fresh _ cs = wrong_number cs

abbrev pub branches_by : ObjectAction → Option Var → List PureTerm → List PureChunk → ChunkBranches
branches_by ObjectAction.New fresh args cs = new_branches fresh args cs
branches_by ObjectAction.Get fresh args cs = of_property args cs (λ l p. get_cases l p cs)
branches_by ObjectAction.Set fresh args cs = set_branches args cs
branches_by ObjectAction.Delete fresh args cs = of_property args cs (λ l p. delete_cases l p cs)
branches_by ObjectAction.Has fresh args cs = of_property args cs (λ l p. has_cases l p cs)
branches_by ObjectAction.GetProto fresh args cs = getproto_branches args cs
branches_by ObjectAction.SetProto fresh args cs = setproto_branches args cs

abbrev pub table : Option ObjectAction → Option Var → List PureTerm → List PureChunk → ChunkBranches
table (Some op) fresh args cs = branches_by op fresh args cs
table None fresh args cs = unknown_action cs

-- ---- what is asked about

abbrev pub may_be_prototype : PureTerm → Bool
may_be_prototype v = may_be_symbol v || allows (known_kind v) Kind.Kind

abbrev pub asked_of_property : List PureTerm → List PureTerm
asked_of_property (l ∷ p ∷ []) = if may_be_property l p then l ∷ p ∷ [] else []
asked_of_property _ = []

-- The arguments that an action asks about, but not the value that `set` stores; and Null, with which prototypes are compared. None
-- where its name, their number or a known kind makes it fail.
abbrev pub asked_by : Option ObjectAction → List PureTerm → List PureTerm
asked_by (Some ObjectAction.New) (v ∷ []) = if may_be_prototype v then v ∷ null_term ∷ [] else []
asked_by (Some ObjectAction.Get) args = asked_of_property args
asked_by (Some ObjectAction.Set) (l ∷ p ∷ t ∷ []) = if may_be_property l p then l ∷ p ∷ [] else []
asked_by (Some ObjectAction.Delete) args = asked_of_property args
asked_by (Some ObjectAction.Has) args = asked_of_property args
asked_by (Some ObjectAction.GetProto) (l ∷ []) = if may_be_symbol l then l ∷ [] else []
asked_by (Some ObjectAction.SetProto) (l ∷ v ∷ []) =
    if may_be_symbol l && may_be_prototype v then l ∷ v ∷ null_term ∷ [] else []
asked_by op args = []
