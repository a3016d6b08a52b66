use Rattle.std.proofs.Common.{rules, ◌≡◌, ℕ, ◌+◌, List, [], ◌++◌, length, ap, ap₂, ◌∙◌, arith}
use Rattle.vt_kinds.specs.declared.entries.Child.{Child}
use Rattle.vt_shown.specs.ShownElements.{soft_keys}
use Rattle.vt_layout.specs.Drawings.{mask_entries}
use Rattle.draw_picture.specs.declared.listing.Around.{Around}
use Rattle.draw_picture.specs.declared.listing.ListedElement.{ListedElement}
use Rattle.draw_picture.specs.Documents.{key_places}
use Rattle.draw_picture.specs.Listings.{around_keys, around_mask, first_of, listed}
use Rattle.draw_picture.proofs.Listed.{then_more}
use Rattle.draw_picture.proofs.listing.list_elements.Goals as goal

pub returns : goal.returns
returns g c =
    let store = g.S.Store.contents c.args.store.now in
    let sizes = c.args.sizes in
    let keys = soft_keys store c.args.mask in
    let of_mask = listed 32 sizes store (mask_entries store c.args.mask) (around_mask sizes) in
    let of_keys = listed 32 sizes store (key_places sizes 0 keys) (around_keys sizes (length keys)) in
    let empty : c.new-list.result.items ≡ [] = c.new-list.ensures.items in
    let places : c.as_slice.result.now ≡ key_places sizes 0 keys = search rules in
    let beside : c.around_keys-beside.result ≡ around_keys sizes (length keys) = search rules in
    let mask_listed = c.in_ok-list_mask.ensures.listed ∙ ap (λ (l : List ListedElement). first_of (l ++ of_mask (length l))) empty in
    c.in_ok-list_entries.ensures.listed
    ∙ ap₂ (λ (entries : List Child) (around : Around). first_of (c.list_mask.new.list.items ++ listed 32 sizes store entries around (length c.list_mask.new.list.items))) places beside
    ∙ ap (λ (l : List ListedElement). first_of (l ++ of_keys (length l))) mask_listed
    ∙ then_more (of_mask 0) of_keys
    ∙ ap (λ (n : ℕ). first_of (of_mask 0 ++ of_keys n)) (let same : length (of_mask 0) ≡ 0 + length (of_mask 0) = omega arith in same)
