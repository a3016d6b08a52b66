-- A pass over objects, each with a list.
use Rattle.std.proofs.Common.{◌≡◌, ℕ, suc, ◌+◌, ◌<◌, List, ◌++◌, map, drop, length, get_or, sym, ap, ◌∙◌, append_assoc, arith}
use Rattle.std.proofs.Math.Seq.{drop-cons}
use Rattle.std.specs.List.{flat_map}
use Rattle.vt_kinds.specs.declared.object.Object.{Object}
use Rattle.vt_kinds.specs.Records.{Seen}
use Rattle.vt_stores.specs.Stores.{seen_entry}

module _ {R B : Type 0} (list : ℕ × Seen → List R) where
  -- the lists of the remaining objects begin with that of the next one
  pub next_list : (items : List (ℕ × Object B)) (i : ℕ) (item : ℕ × Object B) → i < length items → item ≡ get_or items i item
      → flat_map list (map seen_entry (drop i items)) ≡ list (seen_entry item) ++ flat_map list (map seen_entry (drop (i + 1) items))
  next_list items i item lt is =
      let one : suc i ≡ i + 1 = omega arith in
      ap (λ (l : List (ℕ × Object B)). flat_map list (map seen_entry l)) (drop-cons items i item lt)
      ∙ ap (λ (x : ℕ × Object B). list (seen_entry x) ++ flat_map list (map seen_entry (drop (suc i) items))) (sym is)
      ∙ ap (λ (k : ℕ). list (seen_entry item) ++ flat_map list (map seen_entry (drop k items))) one

  -- what is put so far, and the lists of the remaining objects
  pub put_next : (all put more : List R) (items : List (ℕ × Object B)) (i : ℕ) (item : ℕ × Object B) → i < length items → item ≡ get_or items i item
      → all ≡ put ++ flat_map list (map seen_entry (drop i items)) → more ≡ put ++ list (seen_entry item)
      → all ≡ more ++ flat_map list (map seen_entry (drop (i + 1) items))
  put_next all put more items i item lt is left new =
      left ∙ ap (λ (rs : List R). put ++ rs) (next_list items i item lt is)
      ∙ sym (append_assoc put (list (seen_entry item)) _)
      ∙ ap (λ (rs : List R). rs ++ flat_map list (map seen_entry (drop (i + 1) items))) (sym new)
