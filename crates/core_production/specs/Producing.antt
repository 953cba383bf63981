-- Producing core predicates on lists of chunks: what a new chunk needs by itself, and beside each chunk of its location.
use Rattle.std.specs.Prelude.{ℕ, List, [], ◌∷◌, ◌++◌, Bool, true, false, if◌then◌else◌, Option, Some, None}
use Rattle.std.specs.Option.{option_map}
use Rattle.gil_values.specs.declared.kinds.Kind.{Kind}
use Rattle.core_changes.specs.Consuming.{key_given}
use Rattle.core_uses.specs.Kept.{AreKept}
use Rattle.mem_model.specs.declared.cores.Core.{Core}
use Rattle.mem_model.specs.declared.keys.MemoryName.{MemoryName}
use Rattle.mem_model.specs.CoreNames.{core_of}
use Rattle.pure_terms.specs.Pure.{PureTerm, literal, list_of, to_list}
use Rattle.sym_chunks.specs.ByPlace.{all_by_place}
use Rattle.sym_chunks.specs.Cases.{ChunkBranches, branches_of, true_term}
use Rattle.sym_chunks.specs.Forms.{form_of}
use Rattle.sym_chunks.specs.NameTerms.{listed, distinct_from}
use Rattle.sym_chunks.specs.Ordering.{inside}
use Rattle.sym_model.specs.Alternatives.{Alternatives, never, always, both, any, same, other, of_kind}
use Rattle.sym_model.specs.Chunks.{StandFor, terms_of}
use Rattle.sym_model.specs.CoreLaws.{ProduceLaw, ProducesWhatMatters, ProducesPlainly, ProducesNarrowly}
use Rattle.sym_model.specs.Cores.{TakesBoth}
use Rattle.sym_model.specs.Lists.{Each}
use Rattle.sym_model.specs.Plain.{IsPlainState}
use Rattle.sym_model.specs.Pure.{PureSub, named, cell, shape, bound, dom, proto, gone, PureKey, PureChunk, done}

-- ---- the new chunk

-- what the key holds, by the outs of its core predicate; `gone` holds true
abbrev pub held_by : PureSub → List PureTerm → Option PureTerm
held_by gone [] = Some true_term
held_by gone (t ∷ ts) = None
held_by s (t ∷ []) = Some t
held_by s ts = None

-- the names are a list term of distinct texts, or another term that is a list
abbrev pub are_names : Alternatives → PureTerm → Alternatives
are_names x (list_of ds) = distinct_from x (to_list ds)
are_names x d = both x (of_kind d Kind.List)

-- the kinds of the key's terms, and of what it holds, are right
abbrev pub is_right : PureTerm → PureSub → PureTerm → Alternatives
is_right l (named p) t = both (of_kind l Kind.Sym) (of_kind p Kind.Str)
is_right l (cell i) t = both (of_kind l Kind.Sym) (of_kind i Kind.Int)
is_right l shape d = are_names (of_kind l Kind.Sym) d
is_right l bound n = both (of_kind l Kind.Sym) (of_kind n Kind.Int)
is_right l dom d = are_names (of_kind l Kind.Sym) d
is_right l proto t = of_kind l Kind.Sym
is_right l gone t = of_kind l Kind.Sym

-- ---- beside a chunk of its location

-- a list of names whose literal form is needed
abbrev pub needs_form : PureTerm → Bool
needs_form (list_of ds) = false
needs_form (literal k) = false
needs_form t = true

-- the name is one of the list; where the literal form is needed nothing is asked
abbrev pub listed_unless_open : PureTerm → PureTerm → Alternatives
listed_unless_open p d = if needs_form d then always else listed p d

-- a name, a cell, a list of names, a bound and a prototype beside a chunk of the location: their keys differ and stand together
abbrev pub name_fits : PureTerm → PureSub → PureTerm → Alternatives
name_fits p (named q) w = other p q
name_fits p shape d = listed_unless_open p d
name_fits p dom d = listed_unless_open p d
name_fits p gone w = never
name_fits p s w = always

abbrev pub cell_fits : PureTerm → PureSub → PureTerm → Alternatives
cell_fits i (cell j) w = other i j
cell_fits i bound n = inside i n
cell_fits i gone w = never
cell_fits i s w = always

abbrev pub names_fit : PureTerm → PureSub → Alternatives
names_fit d (named p) = listed_unless_open p d
names_fit d (cell i) = always
names_fit d proto = always
names_fit d s = never

abbrev pub bound_fits : PureTerm → PureSub → Alternatives
bound_fits n (named p) = always
bound_fits n (cell i) = inside i n
bound_fits n proto = always
bound_fits n s = never

abbrev pub prototype_fits : PureSub → Alternatives
prototype_fits proto = never
prototype_fits gone = never
prototype_fits s = always

-- nothing stands beside `gone`
abbrev pub fits : PureSub → PureTerm → PureSub → PureTerm → Alternatives
fits (named p) v s w = name_fits p s w
fits (cell i) v s w = cell_fits i s w
fits shape d s w = names_fit d s
fits bound n s w = bound_fits n s
fits dom d s w = names_fit d s
fits proto v s w = prototype_fits s
fits gone v s w = never

abbrev pub fits_beside : PureChunk → PureChunk → Alternatives
fits_beside n c = fits n.sub n.val c.sub c.val

-- the chunk has the names of its location by a term whose literal form is needed
abbrev pub has_open_names : PureSub → PureTerm → Bool
has_open_names shape d = needs_form d
has_open_names dom d = needs_form d
has_open_names s t = false

-- besides, the chunk has no such names
abbrev pub fits_closed : PureChunk → PureChunk → Alternatives
fits_closed n c = if has_open_names c.sub c.val then never else fits_beside n c

-- the chunk has the names of l by a term whose literal form is needed
abbrev pub opened_there : PureTerm → PureTerm → PureSub → PureTerm → Alternatives
opened_there l loc shape d = form_of d (same l loc)
opened_there l loc dom d = form_of d (same l loc)
opened_there l loc s t = never

abbrev pub opened_at : PureTerm → PureChunk → Alternatives
opened_at l c = opened_there l c.loc c.sub c.val

-- ---- branches

-- the chunk is right by itself, and f of each chunk of its location holds
abbrev pub may_stand : PureChunk → (PureChunk → Alternatives) → List PureChunk → Alternatives
may_stand n f cs = both (is_right n.loc n.sub n.val) (all_by_place n.loc f cs)

abbrev pub added : PureChunk → List PureChunk → Alternatives → ChunkBranches
added n cs when = branches_of when (cs ++ n ∷ []) (done true_term)

-- besides, the literal form of the list of names is needed, where it is no list term
abbrev pub opened_unless_list : PureTerm → Alternatives → Alternatives
opened_unless_list (list_of ds) x = x
opened_unless_list d x = form_of d x

-- a name stands beside the lists of names that are known, or some list beside it isn't known
abbrev pub produced_at : PureSub → PureChunk → List PureChunk → ChunkBranches
produced_at (named p) n cs =
    added n cs (may_stand n (fits_closed n) cs) ++ added n cs (both (any (opened_at n.loc) cs) (may_stand n (fits_beside n) cs))
produced_at shape n cs = added n cs (opened_unless_list n.val (may_stand n (fits_beside n) cs))
produced_at dom n cs = added n cs (opened_unless_list n.val (may_stand n (fits_beside n) cs))
produced_at s n cs = added n cs (may_stand n (fits_beside n) cs)

abbrev pub produced : PureChunk → List PureChunk → ChunkBranches
produced n cs = produced_at n.sub n cs

abbrev pub chunk_of : PureKey → PureTerm → PureChunk
chunk_of k t = record { loc = k.loc; sub = k.sub; val = t }

abbrev pub produced_if : Option PureChunk → List PureChunk → ChunkBranches
produced_if (Some n) cs = produced n cs
produced_if None cs = []

abbrev pub chunk_held : PureKey → List PureTerm → Option PureChunk
chunk_held k outs = option_map (chunk_of k) (held_by k.sub outs)

-- the chunk that a core predicate stands for
abbrev pub chunk_given : Option PureKey → List PureTerm → Option PureChunk
chunk_given (Some k) outs = chunk_held k outs
chunk_given None outs = None

abbrev pub produced_by : Option Core → List PureTerm → List PureTerm → List PureChunk → ChunkBranches
produced_by (Some core) ins outs cs = produced_if (chunk_given (key_given core ins) outs) cs
produced_by None ins outs cs = []

-- The branches keep the laws of production for every memory that has the core predicate: a literal form is needed only where it
-- matters, they are plain from plain states and narrow from narrow ones, and keep what lists of chunks keep.
pub record ProduceChunks (memory : MemoryName) (core : List ℕ) (ins outs : List PureTerm) (cs : List PureChunk) (bs : ChunkBranches) : Type 0 where
  pub laws : ProduceLaw memory (StandFor memory) terms_of core ins outs cs bs
  pub forms : ProducesWhatMatters memory (StandFor memory) terms_of core ins outs cs bs
  pub plain : ProducesPlainly (λ ds. IsPlainState memory (terms_of ds)) core ins outs cs bs
  pub narrow : ProducesNarrowly terms_of core ins outs cs bs
  pub kept : AreKept memory cs → Each (λ b. AreKept memory b.state) bs

abbrev pub Produce : List ℕ → List PureTerm → List PureTerm → List PureChunk → ChunkBranches → Type 0
Produce core ins outs cs bs = (memory : MemoryName) → TakesBoth memory core ins outs → ProduceChunks memory core ins outs cs bs
