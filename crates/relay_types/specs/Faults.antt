-- The numbers and the names of the readers' refusals.
use Rattle.std.specs.Prelude.{ℕ, List, codes}
use Rattle.relay_types.specs.declared.fault.ReadFault.{ReadFault}
use Rattle.relay_types.specs.declared.fault.ReadFault.TheVariants.{BadName, BadId, BadSecret, BadUrl, BadMax, TooLong}
use Rattle.relay_types.specs.declared.fault.ReadFault.TheVariants.{BadMoment, OutOfMemory}

abbrev pub fault_number : ReadFault → ℕ
fault_number BadName = 1
fault_number BadId = 2
fault_number BadSecret = 3
fault_number BadUrl = 4
fault_number BadMax = 5
fault_number TooLong = 6
fault_number BadMoment = 7
fault_number OutOfMemory = 8

abbrev pub fault_name : ReadFault → List ℕ
fault_name BadName = codes "BadName"
fault_name BadId = codes "BadId"
fault_name BadSecret = codes "BadSecret"
fault_name BadUrl = codes "BadUrl"
fault_name BadMax = codes "BadMax"
fault_name TooLong = codes "TooLong"
fault_name BadMoment = codes "BadMoment"
fault_name OutOfMemory = codes "OutOfMemory"
