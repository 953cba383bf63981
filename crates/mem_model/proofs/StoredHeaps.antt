-- What is kept in memory holds what its heap holds.
use Rattle.std.proofs.Common.{◌≡◌, Bool, true, false, cond, List, [], ◌∷◌, map, Option, Some, None, is_some, Bor, refl, sym, ap, ◌∙◌}
use Rattle.std.specs.Map.{lookup}
use Rattle.std.specs.BTreeMap.{is_at}
use Rattle.std.specs.Cmp.{eq_by_cmp_equiv}
use Rattle.std.specs.Option.{option_map, option_copied}
use Rattle.std.specs.FinMap.{find, get, from_entries, insert, remove, get-from_entries, get-insert, get-remove}
use Rattle.gil_values.specs.declared.tree.Value.{Value}
use Rattle.gil_values.specs.View.{value_view}
use Rattle.mem_model.specs.declared.keys.Key.{Key}
use Rattle.mem_model.specs.Keys.{key_cmp}
use Rattle.mem_model.specs.KeyOrder.{key_cmp-total}
use Rattle.mem_model.specs.Heaps.{Heap}
use Rattle.mem_model.specs.Stored.{entry_view}
use Rattle.mem_model.proofs.Joins.{same_heap}

abbrev pub seen : List (Key × Value) → Heap
seen es = from_entries (map entry_view es)

abbrev pub kept_at : List (Key × Value) → Key → Option Value
kept_at es k = lookup (is_at (key_cmp k)) es

map_cond : (b : Bool) (v : Value) (o : Option Value) → option_map value_view (cond b (Some v) o) ≡ cond b (Some (value_view v)) (option_map value_view o)
map_cond true v o = refl
map_cond false v o = refl

map_none : (b : Bool) (o : Option Value) → option_map value_view (cond b None o) ≡ cond b None (option_map value_view o)
map_none true o = refl
map_none false o = refl

find-seen : (es : List (Key × Value)) (k : Key) → find key_cmp k (map entry_view es) ≡ option_map value_view (kept_at es k)
find-seen [] k = refl
find-seen (e ∷ es) k = ap (cond (is_at (key_cmp k) e.0) (Some (value_view e.1))) (find-seen es k) ∙ sym (map_cond (is_at (key_cmp k) e.0) e.1 (kept_at es k))

pub get-seen : (es : List (Key × Value)) (k : Key) → get (seen es) k ≡ option_map value_view (kept_at es k)
get-seen es k = get-from_entries key_cmp-total (map entry_view es) k ∙ find-seen es k

pub seen_inserted : (es fs : List (Key × Value)) (k : Key) (v : Value) → ((q : Key) → kept_at fs q ≡ cond (is_at (key_cmp k) q) (Some v) (kept_at es q)) → seen fs ≡ insert (seen es) k (value_view v)
seen_inserted es fs k v is = same_heap _ _ (λ q.
    get-seen fs q ∙ ap (option_map value_view) (is q) ∙ map_cond (is_at (key_cmp k) q) v (kept_at es q)
    ∙ (λ i. cond ((eq_by_cmp_equiv key_cmp-total).symm k q i) (Some (value_view v)) (sym (get-seen es q) i))
    ∙ sym (get-insert key_cmp-total (seen es) k (value_view v) q))

pub seen_removed : (es fs : List (Key × Value)) (k : Key) → ((q : Key) → kept_at fs q ≡ cond (is_at (key_cmp k) q) None (kept_at es q)) → seen fs ≡ remove (seen es) k
seen_removed es fs k is = same_heap _ _ (λ q.
    get-seen fs q ∙ ap (option_map value_view) (is q) ∙ map_none (is_at (key_cmp k) q) (kept_at es q)
    ∙ (λ i. cond ((eq_by_cmp_equiv key_cmp-total).symm k q i) None (sym (get-seen es q) i))
    ∙ sym (get-remove key_cmp-total (seen es) k q))

pub seen_ref : (r : Option (Bor Value)) → option_map (λ (v : Bor Value). value_view v.now) r ≡ option_map value_view (option_copied r)
seen_ref None = refl
seen_ref (Some v) = refl

pub seen_some : (o : Option Value) → is_some o ≡ is_some (option_map value_view o)
seen_some None = refl
seen_some (Some v) = refl
