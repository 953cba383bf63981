-- The arguments of actions, whose number and kinds are asked before the chunks are looked at.
use Rattle.std.specs.Prelude.{List, ◌++◌, Bool, ◌&&◌}
use Rattle.gil_values.specs.declared.kinds.Kind.{Kind}
use Rattle.mem_model.specs.declared.failures.Failure.{Failure}
use Rattle.pure_terms.specs.Kinds.{allows, known_kind}
use Rattle.pure_terms.specs.Pure.{PureTerm}
use Rattle.sym_chunks.specs.Cases.{ChunkBranches, PureCase, branches_of, choose, failure}
use Rattle.sym_model.specs.Alternatives.{Alternatives, always, both, of_kind, not_of_kind}
use Rattle.sym_model.specs.Pure.{PureChunk}

abbrev pub wrong_number : List PureChunk → ChunkBranches
wrong_number cs = branches_of always cs (failure Failure.Arity)

-- where some argument is of a wrong kind the action fails, and where all are of the right ones the cases come
abbrev pub checked : Alternatives → Alternatives → List PureChunk → List PureCase → ChunkBranches
checked wrong right cs cases = branches_of wrong cs (failure Failure.Kind) ++ choose right cases

abbrev pub no_property : PureTerm → PureTerm → Alternatives
no_property l p = not_of_kind l Kind.Sym ++ not_of_kind p Kind.Str

abbrev pub is_property : PureTerm → PureTerm → Alternatives
is_property l p = both (of_kind l Kind.Sym) (of_kind p Kind.Str)

-- an action that the memory doesn't have
abbrev pub unknown_action : List PureChunk → ChunkBranches
unknown_action cs = branches_of always cs (failure Failure.Action)

-- ---- what the kinds, where they are known, allow

abbrev pub may_be_symbol : PureTerm → Bool
may_be_symbol l = allows (known_kind l) Kind.Sym

-- the kinds of a location and a name, where they are known
abbrev pub may_be_property : PureTerm → PureTerm → Bool
may_be_property l p = may_be_symbol l && allows (known_kind p) Kind.Str
