use Rattle.std.proofs.Common.{rules}
use Rattle.vt_service.specs.Requests.{hardware_in}
use Rattle.vt_service.proofs.profile.hardware_in.Goals as goal

pub returns-in_err-boot_time : goal.returns-in_err-boot_time
unfolding hardware_in
returns-in_err-boot_time c = search rules

pub returns-in_err-graphic_type : goal.returns-in_err-graphic_type
unfolding hardware_in
returns-in_err-graphic_type c = search rules

pub returns-in_err-hardware : goal.returns-in_err-hardware
unfolding hardware_in
returns-in_err-hardware c = search rules

pub returns : goal.returns
unfolding hardware_in
returns c = search rules
