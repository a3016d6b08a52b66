use Rattle.std.proofs.Common.{rules, ◌≡◌, ◌*◌, ◌/◌, ◌^◌, ◌+◌, ◌+ℤ◌, ◌<◌, ◌++◌, ◌&&◌, ℕ, ℤ, pos, nat_abs, nat_lt, int_lt, [], cond, codes, ap, subst, ◌∙◌}
use Rattle.std.specs.Fmt.{decimal}
use Rattle.vt_kinds.specs.Scales.{scale_places}
use Rattle.vt_objects.specs.Decimals.{IsShownText, shown_text, fraction_text}
use Rattle.vt_objects.proofs.Rounding.{is_shown, shown_text_is}
use Rattle.vt_objects.proofs.decimal.Decimal.shown.Goals as goal

pub returns-clause-text : goal.returns-clause-text
returns-clause-text c =
    let places = scale_places c.args.self.now.scale in
    let decimals = c.args.self.now.decimals in
    let m = c.size.result in
    let q = c.rounded-magnitude.result in
    let negative = c.is_below_zero.result in
    let sum_is : c.sum-sum.result ≡ pos c.args.self.now.value +ℤ c.args.self.now.offset = search rules in
    let size_is : m ≡ nat_abs c.sum-sum.result = search rules in
    let sign_is : negative ≡ (int_lt c.sum-sum.result (pos 0) && nat_lt 0 q) = search rules in
    let unit_is : c.power_of_ten-unit.result ≡ 10 ^ decimals = c.power_of_ten-unit.ensures.value ∙ ap (λ (e : ℕ). 10 ^ e) c.count-decimals.ensures.value in
    let divisor_is : c.power_of_ten-divisor.result ≡ 10 ^ places = c.power_of_ten-divisor.ensures.value ∙ ap (λ (e : ℕ). 10 ^ e) c.places.ensures in
    let some : 0 < 10 ^ places = subst (λ (a : ℕ). 0 < a) divisor_is c.power_of_ten-divisor.ensures.some in
    let nearest : q ≡ (2 * (m * 10 ^ decimals) + 10 ^ places) / (2 * 10 ^ places) =
    c.rounded-magnitude.ensures.nearest
    ∙ ap (λ (u : ℕ). (2 * (m * u) + c.power_of_ten-divisor.result) / (2 * c.power_of_ten-divisor.result)) unit_is
    ∙ ap (λ (a : ℕ). (2 * (m * 10 ^ decimals) + a) / (2 * a)) divisor_is in
    let digits = c.written.ensures.text
    ∙ ap (λ (u : ℕ). cond negative (codes "-") [] ++ decimal (q / u) ++ fraction_text c.count-decimals.result q) unit_is
    ∙ ap (λ (d : ℕ). cond negative (codes "-") [] ++ decimal (q / 10 ^ decimals) ++ fraction_text d q) c.count-decimals.ensures.value in
    subst (λ (n : ℤ). IsShownText n places decimals c.written.result.bytes) sum_is
    (is_shown c.sum-sum.result places decimals m q negative c.written.result.bytes size_is some nearest sign_is digits)

pub returns-clause-computed : goal.returns-clause-computed
returns-clause-computed c =
    let places = scale_places c.args.self.now.scale in
    let decimals = c.args.self.now.decimals in
    let m = c.size.result in
    let q = c.rounded-magnitude.result in
    let negative = c.is_below_zero.result in
    let sum_is : c.sum-sum.result ≡ pos c.args.self.now.value +ℤ c.args.self.now.offset = search rules in
    let size_is : m ≡ nat_abs c.sum-sum.result = search rules in
    let sign_is : negative ≡ (int_lt c.sum-sum.result (pos 0) && nat_lt 0 q) = search rules in
    let unit_is : c.power_of_ten-unit.result ≡ 10 ^ decimals = c.power_of_ten-unit.ensures.value ∙ ap (λ (e : ℕ). 10 ^ e) c.count-decimals.ensures.value in
    let divisor_is : c.power_of_ten-divisor.result ≡ 10 ^ places = c.power_of_ten-divisor.ensures.value ∙ ap (λ (e : ℕ). 10 ^ e) c.places.ensures in
    let nearest : q ≡ (2 * (m * 10 ^ decimals) + 10 ^ places) / (2 * 10 ^ places) =
    c.rounded-magnitude.ensures.nearest
    ∙ ap (λ (u : ℕ). (2 * (m * u) + c.power_of_ten-divisor.result) / (2 * c.power_of_ten-divisor.result)) unit_is
    ∙ ap (λ (a : ℕ). (2 * (m * 10 ^ decimals) + a) / (2 * a)) divisor_is in
    let digits = c.written.ensures.text
    ∙ ap (λ (u : ℕ). cond negative (codes "-") [] ++ decimal (q / u) ++ fraction_text c.count-decimals.result q) unit_is
    ∙ ap (λ (d : ℕ). cond negative (codes "-") [] ++ decimal (q / 10 ^ decimals) ++ fraction_text d q) c.count-decimals.ensures.value in
    subst (λ (n : ℤ). c.written.result.bytes ≡ shown_text n places decimals) sum_is
    (shown_text_is c.sum-sum.result places decimals m q negative c.written.result.bytes size_is nearest sign_is digits)
