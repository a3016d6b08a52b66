use Rattle.std.proofs.Common.{rules, ◌≡◌, to_z, of_z, w32}
use Rattle.draw_picture.specs.Listings as listings
use Rattle.draw_picture.proofs.listing.within.Goals as goal

pub returns : goal.returns
returns c =
    let all = listings.within c.args.around c.args.at c.args.width c.args.height in
    let left : to_z w32 (of_z w32 c.greater.result) ≡ all.left = search rules in
    let top : to_z w32 (of_z w32 c.greater-2.result) ≡ all.top = search rules in
    let right : to_z w32 (of_z w32 c.less.result) ≡ all.right = search rules in
    let bottom : to_z w32 (of_z w32 c.less-2.result) ≡ all.bottom = search rules in
    λ i. record { left = left i; top = top i; right = right i; bottom = bottom i }
