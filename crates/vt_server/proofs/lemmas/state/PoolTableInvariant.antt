-- The table of pools and uploads keeps its invariant after a write.
use Rattle.std.proofs.Common.{◌≡◌, ◌<◌, ℕ, Bool, true, true≢false, List, get_or, Option, Some, None, sym, ap, subst, ◌∙◌}
use Rattle.std.proofs.lemmas.List.{length-set, get_or-set_same, get_or-set_other}
use Rattle.std.specs.Prelude.{slice_set}
use Rattle.vt_machine.specs.SetStates.{SetState}
use Rattle.vt_pool.specs.PoolUploads.{Arrived}
use Rattle.vt_server.specs.state.PoolTables.{AreKept}
use Rattle.vt_names.proofs.AddressesAfterClaim.{by_eq, none-some}

module _ (pools : List (Option SetState)) (transfers : List (Option Arrived)) (may : Bool) (kept : AreKept pools transfers may) where
  pub kept-upload : (m : ℕ) (transfer : Option Arrived) → AreKept pools (slice_set transfers m transfer) may
  kept-upload m transfer = record {
    pools_each = kept.pools_each;
    transfers_each = length-set transfers m transfer ∙ kept.transfers_each;
    none = kept.none;
  }

  pub kept-put : (n m : ℕ) (pool : Option SetState) (transfer : Option Arrived) → AreKept (slice_set pools n pool) (slice_set transfers m transfer) true
  kept-put n m pool transfer = record {
    pools_each = length-set pools n pool ∙ kept.pools_each;
    transfers_each = length-set transfers m transfer ∙ kept.transfers_each;
    none = λ no address. absurd (true≢false no);
  }

  pub kept-removed : (n m : ℕ) (transfer : Option Arrived) → n < 256 → AreKept (slice_set pools n None) (slice_set transfers m transfer) may
  kept-removed n m transfer within = record {
    pools_each = length-set pools n None ∙ kept.pools_each;
    transfers_each = length-set transfers m transfer ∙ kept.transfers_each;
    none = λ no address.
        by_eq address n
        (λ is. ap (λ q. get_or (slice_set pools n None) q None) is ∙ get_or-set_same pools n None None (subst (λ l. n < l) (sym kept.pools_each) within))
        (λ ne. get_or-set_other pools n address None None ne ∙ kept.none no address);
  }

  pub kept-changed : (n : ℕ) (live changed : SetState) → get_or pools n None ≡ Some live → AreKept (slice_set pools n (Some changed)) transfers may
  kept-changed n live changed is = record {
    pools_each = length-set pools n (Some changed) ∙ kept.pools_each;
    transfers_each = kept.transfers_each;
    none = λ no address. none-some (sym (kept.none no n) ∙ is);
  }
