use Rattle.std.proofs.Common.{refl, ap, subst, ◌≡◌, [], codes, true, map, List, Result, Ok, Err, IfOk, IfErr, inl, inr}
use Rattle.std.proofs.lemmas.Result.{err_from_is_err_and}
use Rattle.clap.specs.Words.{App, FailsBy, HasKind, HasMatchesOf, Text, app_of, fault_of, first_of, first_value, found_of, is_simple_and_free, matches_of, one_of, one_text, rows_of}
use Rattle.clap.specs.declared.builder.command.Command.{Command}
use Rattle.clap.specs.declared.error.Error.{Error}
use Rattle.clap.specs.declared.parser.matches.ArgMatches.{ArgMatches}
use Rattle.clap.proofs.WalkLemmas.{first_value-rows, one_text-rows}
use Rattle.vt_program.specs.declared.options.Options.{Options}
use Rattle.vt_program.specs.declared.options.UsageError.{UsageError}
use Rattle.vt_program.specs.declared.options.UsageError.TheVariants.{Words, Address, Name, OwnerIsOwn, Alone, Memory}
use Rattle.vt_program.specs.Words.{HasValidAddresses, Given, GivesOptions, IsMistake, IsRefusalFor, IsRefusalOf, WordsGive, app, faults_in, given_by, given_in}
use Rattle.vt_program.proofs.options.Options.parse.Goals as goal

-- The matches of clap give the same texts as the words.
given_same : (m : ArgMatches) (words : List Text) → HasMatchesOf app words m
    → given_in (first_value (found_of m)) (one_text (found_of m)) ≡ given_by words
unfolding given_by
given_same m words matches =
    let rows : rows_of (found_of m) ≡ matches_of app words = (matches refl).0 in
    let same : (id : Text) → first_value (found_of m) id ≡ first_of id (matches_of app words) =
    λ id. rw (first_value-rows (found_of m) id, rows) refl in
    let flag : one_text (found_of m) (codes "report") ≡ one_of (codes "report") (matches_of app words) =
    rw (one_text-rows (found_of m) (codes "report"), rows) refl in
    rw (same (codes "FILE"), same (codes "own"), same (codes "name"), same (codes "pool"), same (codes "owner"), flag) refl

faults_of_app : (command : Command) (words : List Text) (r : Result ArgMatches Error) → app_of command ≡ app
    → (is_simple_and_free (app_of command) ≡ true → FailsBy (fault_of (app_of command) words) r) → FailsBy (faults_in words) r
unfolding faults_in
faults_of_app command words r same kinds =
    subst (λ (a : App). FailsBy (fault_of a words) r) same (kinds (ap is_simple_and_free same))

refused_by_clap : (words : List Text) (e : Error) (r : UsageError) → IsRefusalFor e r → HasKind (faults_in words) e → IsRefusalOf words r
refused_by_clap words e (Words other) for (inl memory) = absurd (for.1 memory)
refused_by_clap words e (Words other) for (inr among) = rw for.0 among
refused_by_clap words e (Address option value) for kind = absurd for
refused_by_clap words e (Name value) for kind = absurd for
refused_by_clap words e (OwnerIsOwn value) for kind = absurd for
refused_by_clap words e Alone for kind = absurd for
refused_by_clap words e Memory for kind = tt

words_give : (words : List Text) (given : Given) (r : Result Options UsageError) → given ≡ given_by words → faults_in words ≡ []
    → IfOk r (GivesOptions given) → IfOk r HasValidAddresses → IfOk r (WordsGive words)
words_give words given (Ok options) same none gives apart =
    record { no_fault = none; gives = subst (λ (g : Given). GivesOptions g options) same gives; apart = apart }
words_give words given (Err refusal) same none gives apart = tt

words_are_refused : (words : List Text) (given : Given) (r : Result Options UsageError) → given ≡ given_by words → faults_in words ≡ []
    → IfErr r (IsMistake given) → IfErr r (IsRefusalOf words)
words_are_refused words given (Ok options) same none mistake = tt
words_are_refused words given (Err (Words error)) same none mistake = absurd mistake
words_are_refused words given (Err (Address option value)) same none mistake =
    (none, subst (λ (g : Given). IsMistake g (Address option value)) same mistake)
words_are_refused words given (Err (Name value)) same none mistake = (none, subst (λ (g : Given). IsMistake g (Name value)) same mistake)
words_are_refused words given (Err (OwnerIsOwn value)) same none mistake =
    (none, subst (λ (g : Given). IsMistake g (OwnerIsOwn value)) same mistake)
words_are_refused words given (Err Alone) same none mistake = (none, subst (λ (g : Given). IsMistake g Alone) same mistake)
words_are_refused words given (Err Memory) same none mistake = absurd mistake

pub returns-in_err-matches-clause-refused : goal.returns-in_err-matches-clause-refused
returns-in_err-matches-clause-refused g c =
    let words = map g.S.AsStr.text c.args.words.now in
    let e = c.in_err-matches.field-0.0 in
    let p = err_from_is_err_and c.from_residual-in_err-matches.result c.from_residual-in_err-matches.ensures.1 in
    rw p.1 (refused_by_clap words e p.0 p.2
    (faults_of_app c.in_ok-command.field-0 words (Err e) c.in_ok-command.ensures.app c.in_err-matches.ensures.kinds))

pub returns-clause-given : goal.returns-clause-given
returns-clause-given g c =
    let words = map g.S.AsStr.text c.args.words.now in
    let m = c.in_ok-matches.matches in
    let same = c.in_ok-command.ensures.app in
    words_give words _ c.options_of.result
    (given_same m words (subst (λ (a : App). HasMatchesOf a words m) same c.in_ok-matches.ensures.matches))
    (faults_of_app c.in_ok-command.field-0 words (Ok m) same c.in_ok-matches.ensures.kinds)
    c.options_of.ensures.gives c.options_of.ensures.apart

pub returns-clause-refused : goal.returns-clause-refused
returns-clause-refused g c =
    let words = map g.S.AsStr.text c.args.words.now in
    let m = c.in_ok-matches.matches in
    let same = c.in_ok-command.ensures.app in
    words_are_refused words _ c.options_of.result
    (given_same m words (subst (λ (a : App). HasMatchesOf a words m) same c.in_ok-matches.ensures.matches))
    (faults_of_app c.in_ok-command.field-0 words (Ok m) same c.in_ok-matches.ensures.kinds)
    c.options_of.ensures.refused
