-- The macros that an event can run are those that its macros reach in the graph of the triggers.
use Rattle.std.proofs.Common.{◌↔◌, ℕ, List, [], ◌∷◌, ◌++◌, sym, subst, inl, inr}
use Rattle.std.specs.Prelude.{Contains}
use Rattle.vt_rank.specs.declared.graph.Graph.{Graph}
use Rattle.vt_rank.specs.Graphs as graphs
use Rattle.vt_rank.specs.NodeSets.{IsReached, Leads}
use Rattle.vt_rank.specs.Paths.{IsPath}
use Rattle.vt_rank.proofs.ReachableRows.{leads_on}
use Rattle.vt_stores.specs.Shapes.{Shape}
use Rattle.vt_verify.specs.declared.listing.Listing.{Listing}
use Rattle.vt_verify.specs.TriggerGraphs.{IsTriggerGraph}
use Rattle.vt_verify.specs.Triggers.{listed, triggered}
use Rattle.vt_verify.proofs.lemmas.graphs.SameTriggers.{triggered_is}
use Rattle.check_costs.specs.Runnable.{CanRun}
use Rattle.check_costs.specs.Runnable.CanRun.{AtEvent, Triggered}

module _ (shape : Shape) (events : List Listing) (g : Graph) (are : IsTriggerGraph shape events g) (event : Listing) where
  one_further : (m n : ℕ) → CanRun shape event m → Contains (graphs.triggered g m) n → CanRun shape event n
  one_further m n runs t = Triggered m n runs (subst (λ (ns : List ℕ). Contains ns n) (triggered_is shape events g are m) t)

  along : (m : ℕ) (between : List ℕ) (n : ℕ) → CanRun shape event m → IsPath (graphs.triggered g) (m ∷ between ++ n ∷ []) → CanRun shape event n
  along m [] n runs path = one_further m n runs path.0
  along m (z ∷ zs) n runs path = along z zs n (one_further m z runs path.0) path.1

  pub runs_if_reached : (n : ℕ) → IsReached g (listed shape event) n → CanRun shape event n
  runs_if_reached n (inl here) = AtEvent n here
  runs_if_reached n (inr path) = along path.0 path.2.0 n (AtEvent path.0 path.1) path.2.1

  leads_once : (m n : ℕ) → Contains (triggered shape m) n → Leads g m n
  leads_once m n t = ([], (subst (λ (ns : List ℕ). Contains ns n) (sym (triggered_is shape events g are m)) t, tt))

  reached_further : (m n : ℕ) → IsReached g (listed shape event) m → Contains (triggered shape m) n → IsReached g (listed shape event) n
  reached_further m n (inl here) t = inr (m, here, leads_once m n t)
  reached_further m n (inr path) t = inr (path.0, path.1, leads_on g path.0 m n path.2 (leads_once m n t))

  pub reached_if_runs : (n : ℕ) → CanRun shape event n → IsReached g (listed shape event) n
  reached_if_runs n (AtEvent _ here) = inl here
  reached_if_runs n (Triggered m _ runs t) = reached_further m n (reached_if_runs m runs) t

  pub runs_exactly : (n : ℕ) → IsReached g (listed shape event) n ↔ CanRun shape event n
  runs_exactly n = (runs_if_reached n, reached_if_runs n)
