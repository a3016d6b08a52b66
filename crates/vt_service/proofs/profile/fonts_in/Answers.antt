use Rattle.std.proofs.Common.{rules}
use Rattle.vt_service.specs.Requests.{fonts_in}
use Rattle.vt_service.proofs.profile.fonts_in.Goals as goal

pub returns-in_err-small : goal.returns-in_err-small
unfolding fonts_in
returns-in_err-small c = search rules

pub returns-in_err-large : goal.returns-in_err-large
unfolding fonts_in
returns-in_err-large c = search rules

pub returns-in_err-styles : goal.returns-in_err-styles
unfolding fonts_in
returns-in_err-styles c = search rules

pub returns : goal.returns
unfolding fonts_in
returns c = search rules
