-- Reading the values of a list one after another.
use Rattle.std.proofs.Common.{◌≡◌, ℕ, ◌+◌, ◌<◌, List, [], ◌∷◌, ◌++◌, Option, Some, None, length}
use Rattle.std.proofs.Common.{drop, get_or, refl, ap, sym, ◌∙◌, append_assoc}
use Rattle.std.specs.Option.{option_map, option_and_then}
use Rattle.toml.specs.declared.value.Value.{Value}
use Rattle.toml.specs.Data.{Data, item}
use Rattle.toml.specs.View.{items_view, view}
use Rattle.toml.proofs.Views.{items_view-drop}
use Rattle.bsc_config.specs.Values.{read_each}

-- the values from an index on are the value at it and the values after it
pub items_from_index : (vs : List Value) (i : ℕ) (v : Value) → i < length vs → v ≡ get_or vs i v
    → items_view (drop i vs) ≡ item (view v) (items_view (drop (i + 1) vs))
items_from_index vs i v below is = items_view-drop vs i v below
    ∙ ap (λ x. item (view x) (items_view (drop (i + 1) vs))) (sym is)

-- the readings before, extended by one more reading
readings_after_one_more : {V : Type 0} (done : List V) (x : V) (o : Option (List V))
    → option_map (λ xs. done ++ xs) (option_map (λ xs. x ∷ xs) o)
    ≡ option_map (λ xs. (done ++ x ∷ []) ++ xs) o
readings_after_one_more done x None = refl
readings_after_one_more done x (Some xs) = ap Some (sym (append_assoc done (x ∷ []) xs))

pub read_each_next : {V : Type 0} (read : Data → Option V) (vs : List Value) (done : List V) (i : ℕ)
    (v : Value) (x : V) → i < length vs → v ≡ get_or vs i v → read (view v) ≡ Some x
    → option_map (λ xs. done ++ xs) (read_each read (items_view (drop i vs)))
    ≡ option_map (λ xs. (done ++ x ∷ []) ++ xs) (read_each read (items_view (drop (i + 1) vs)))
read_each_next read vs done i v x below is reads =
    let rest = read_each read (items_view (drop (i + 1) vs)) in
    ap (λ items. option_map (λ xs. done ++ xs) (read_each read items)) (items_from_index vs i v below is)
    ∙ ap (λ o. option_map (λ xs. done ++ xs)
    (option_and_then (λ value. option_map (λ values. value ∷ values) rest) o)) reads
    ∙ readings_after_one_more done x rest

-- a value that cannot be read makes the whole list unreadable
pub read_each_stop : {V : Type 0} (read : Data → Option V) (vs : List Value) (done : List V) (i : ℕ)
    (v : Value) → i < length vs → v ≡ get_or vs i v → read (view v) ≡ None
    → option_map (λ xs. done ++ xs) (read_each read (items_view (drop i vs))) ≡ None
read_each_stop read vs done i v below is reads =
    let rest = read_each read (items_view (drop (i + 1) vs)) in
    ap (λ items. option_map (λ xs. done ++ xs) (read_each read items)) (items_from_index vs i v below is)
    ∙ ap (λ o. option_map (λ xs. done ++ xs)
    (option_and_then (λ value. option_map (λ values. value ∷ values) rest) o)) reads
