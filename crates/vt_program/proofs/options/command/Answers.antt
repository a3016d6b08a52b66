use Rattle.std.proofs.Common.{rules, refl, ap, ap₂, ◌≡◌, ◌∙◌, [], ◌∷◌, codes, true, arith}
use Rattle.std.proofs.lemmas.Result.{IfOk-weaker}
use Rattle.clap.specs.Words.{AddsArg, AddsInTurn, App, Rule, app_of, with_rule, new_app}
use Rattle.clap.specs.Simple.{app_of_fields}
use Rattle.clap.proofs.CallerLemmas.{required_in_chain}
use Rattle.vt_program.proofs.Chains.{fits_chain, six_fit, six_ids}
use Rattle.vt_program.proofs.options.command.Goals as goal

abbrev with_version : App → App
with_version a = record a { top = record a.top { has_version = true } }

pub returns-clause-app : goal.returns-clause-app
returns-clause-app c =
    let versioned : app_of c.version.result ≡ with_version (new_app (codes "vt_replay")) =
    ap app_of_fields c.version.ensures ∙ ap with_version c.new.ensures.app in
    let named : app_of c.about.result ≡ with_version (new_app (codes "vt_replay")) = ap app_of_fields c.about.ensures ∙ versioned in
    let helped : app_of c.after_help.result ≡ with_version (new_app (codes "vt_replay")) = ap app_of_fields c.after_help.ensures ∙ named in
    let one = c.in_ok-arg.ensures.shape c.file_word-file.ensures.local ∙ ap₂ with_rule helped c.file_word-file.ensures.rule in
    let two = c.in_ok-arg-2.ensures.shape c.valued_option-own.ensures.local ∙ ap₂ with_rule one c.valued_option-own.ensures.rule in
    let three = c.in_ok-arg-3.ensures.shape c.valued_option-name.ensures.local ∙ ap₂ with_rule two c.valued_option-name.ensures.rule in
    let four = c.in_ok-arg-4.ensures.shape c.valued_option-pool.ensures.local ∙ ap₂ with_rule three c.valued_option-pool.ensures.rule in
    let five = c.in_ok-arg-5.ensures.shape c.valued_option-owner.ensures.local ∙ ap₂ with_rule four c.valued_option-owner.ensures.rule in
    IfOk-weaker c.arg-6.result _ _
    (λ command adds. adds.shape c.report_flag-report.ensures.local ∙ ap₂ with_rule five c.report_flag-report.ensures.rule) c.arg-6.ensures

pub returns-clause-file : goal.returns-clause-file
returns-clause-file c =
    let file = c.file_word-file.result in
    let own = c.valued_option-own.result in
    let name = c.valued_option-name.result in
    let pool = c.valued_option-pool.result in
    let owner = c.valued_option-owner.result in
    let report = c.report_flag-report.result in
    let id = λ (r : Rule). r.id in
    let is_file : file.id.now ≡ codes "FILE" = ap id c.file_word-file.ensures.rule in
    let is_own : own.id.now ≡ codes "own" = ap id c.valued_option-own.ensures.rule in
    let is_name : name.id.now ≡ codes "name" = ap id c.valued_option-name.ensures.rule in
    let is_pool : pool.id.now ≡ codes "pool" = ap id c.valued_option-pool.ensures.rule in
    let is_owner : owner.id.now ≡ codes "owner" = ap id c.valued_option-owner.ensures.rule in
    let is_report : report.id.now ≡ codes "report" = ap id c.report_flag-report.ensures.rule in
    let fit = six_fit file own name pool owner report is_file is_own is_name is_pool is_owner is_report
    (fits_chain file _ is_file c.file_word-file.ensures.plain c.file_word-file.ensures.local
    (λ e. absurd (omega arith)) (λ e. absurd (omega arith)) (λ e. absurd (omega arith)))
    (fits_chain own _ is_own c.valued_option-own.ensures.plain c.valued_option-own.ensures.local
    (λ e. absurd (omega arith)) (λ e. absurd (omega arith)) (λ e. absurd (omega arith)))
    (fits_chain name _ is_name c.valued_option-name.ensures.plain c.valued_option-name.ensures.local
    (λ e. absurd (omega arith)) (λ e. absurd (omega arith)) (λ e. absurd (omega arith)))
    (fits_chain pool _ is_pool c.valued_option-pool.ensures.plain c.valued_option-pool.ensures.local
    (λ e. absurd (omega arith)) (λ e. absurd (omega arith)) (λ e. absurd (omega arith)))
    (fits_chain owner _ is_owner c.valued_option-owner.ensures.plain c.valued_option-owner.ensures.local
    (λ e. absurd (omega arith)) (λ e. absurd (omega arith)) (λ e. absurd (omega arith)))
    (fits_chain report _ is_report c.report_flag-report.ensures.plain c.report_flag-report.ensures.local
    (λ e. absurd (omega arith)) (λ e. absurd (omega arith)) (λ e. absurd (omega arith))) in
    IfOk-weaker c.arg-6.result _ _ (λ command adds matches parsed.
    let chain : AddsInTurn AddsArg c.after_help.result (file ∷ own ∷ name ∷ pool ∷ owner ∷ report ∷ []) command = (
      c.in_ok-arg.field-0,
      c.in_ok-arg.ensures,
      (c.in_ok-arg-2.field-0, c.in_ok-arg-2.ensures, (c.in_ok-arg-3.field-0, c.in_ok-arg-3.ensures, (c.in_ok-arg-4.field-0, c.in_ok-arg-4.ensures, (c.in_ok-arg-5.field-0, c.in_ok-arg-5.ensures, (command, adds, refl))))),
    ) in
    let has = required_in_chain c.after_help.result command (file ∷ own ∷ name ∷ pool ∷ owner ∷ report ∷ []) 0 file matches chain
    (search rules) (search rules) (search rules) (search rules) fit
    (six_ids file own name pool owner report is_file is_own is_name is_pool is_owner is_report) (omega arith) c.file_word-file.ensures.value parsed in
    rw is_file at has) c.arg-6.ensures
