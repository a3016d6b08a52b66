use Rattle.std.proofs.Common.{rules}
use Rattle.vt_service.specs.Requests.{soft_keys_in}
use Rattle.vt_service.proofs.profile.soft_keys_in.Goals as goal

pub returns-in_err-width : goal.returns-in_err-width
unfolding soft_keys_in
returns-in_err-width c = search rules

pub returns-in_err-height : goal.returns-in_err-height
unfolding soft_keys_in
returns-in_err-height c = search rules

pub returns-in_err-in_navigation : goal.returns-in_err-in_navigation
unfolding soft_keys_in
returns-in_err-in_navigation c = search rules

pub returns-in_err-physical : goal.returns-in_err-physical
unfolding soft_keys_in
returns-in_err-physical c = search rules

pub returns : goal.returns
unfolding soft_keys_in
returns c = search rules
