-- Lists of names that terms give.
use Rattle.std.specs.Prelude.{List, [], ◌∷◌, Bool, false, ◌&&◌, if◌then◌else◌}
use Rattle.std.specs.List.{list_any}
use Rattle.gil_values.specs.declared.kinds.Kind.{Kind}
use Rattle.pure_terms.specs.Equality.{same_term}
use Rattle.pure_terms.specs.Pure.{PureTerm, list_of, to_list}
use Rattle.sym_model.specs.Alternatives.{Alternatives, never, both, any, all, all_from, same, other, of_kind}
use Rattle.sym_model.specs.Pure.{PureSub, named, PureChunk}

-- p is one of the elements of a list term, or none of them
abbrev pub listed : PureTerm → PureTerm → Alternatives
listed p (list_of ds) = any (same p) (to_list ds)
listed p _ = never

abbrev pub unlisted : PureTerm → PureTerm → Alternatives
unlisted p (list_of ds) = all (other p) (to_list ds)
unlisted p _ = never

-- besides, each term is a text and no two are equal
abbrev pub distinct_from : Alternatives → List PureTerm → Alternatives
distinct_from when [] = when
distinct_from when (d ∷ ds) = distinct_from (all_from (both when (of_kind d Kind.Str)) (other d) ds) ds

-- ---- names that are listed and that no chunk holds

abbrev pub is_name : PureTerm → PureSub → Bool
is_name e (named q) = same_term q e
is_name e _ = false

-- a chunk has these very terms as its location and its name
abbrev pub holds_name : PureTerm → List PureChunk → PureTerm → Bool
holds_name m cs e = list_any (λ c. same_term c.loc m && is_name e c.sub) cs

-- p is the name e, for which no chunk has these very terms
abbrev pub unheld_name : PureTerm → PureTerm → List PureChunk → PureTerm → Alternatives
unheld_name p m cs e = if holds_name m cs e then never else same p e

-- p is one of the names of a list term for which no chunk has these very terms
abbrev pub unheld : PureTerm → PureTerm → List PureChunk → PureTerm → Alternatives
unheld p m cs (list_of ds) = any (unheld_name p m cs) (to_list ds)
unheld p m cs _ = never
