-- The items of a graph's nodes, and the nodes triggered by them.
use Rattle.std.specs.Prelude.{ℕ, List, [], map, take, slice_index_or}
use Rattle.std.specs.List.{flat_map}
use Rattle.std.specs.declared.vec.Vec.{Vec}
use Rattle.vt_rank.specs.declared.graph.Graph.{Graph}
use Rattle.vt_rank.specs.declared.graph.Item.{Item}
use Rattle.vt_rank.specs.declared.graph.Item.TheVariants.{Step, Group, Most}

-- vectors in a vector, as lists
abbrev pub lists : {X A : Type 0} → Vec (Vec X A) A → List (List X)
lists vectors = map (λ v. v.items) vectors.items

-- the items of a node, none from 256 on
unfoldable pub items_of : Graph → ℕ → List Item
items_of g n = slice_index_or (take 256 (lists g.nodes)) n []

-- the nodes of a group
unfoldable pub group_of : Graph → ℕ → List ℕ
group_of g k = slice_index_or (lists g.groups) k []

-- the nodes of an item
abbrev pub nodes_of : Graph → Item → List ℕ
nodes_of g Step = []
nodes_of g (Group k) = group_of g k
nodes_of g Most = flat_map (group_of g) g.most.items

abbrev pub triggered : Graph → ℕ → List ℕ
triggered g n = flat_map (nodes_of g) (items_of g n)
