-- The numbers of Symbian OS for the errors that the kernel answers.
use Rattle.std.specs.Prelude.{ℤ, negsuc}
use Rattle.sym_base.specs.declared.error.Error.{Error}
use Rattle.sym_base.specs.declared.error.Error.TheVariants.{NotFound, General, Cancel, Argument, BadHandle, Overflow, AlreadyExists, Died, InUse, ServerTerminated, ServerBusy, BadDescriptor, PermissionDenied}

-- -1, -2, -3 and so on: `negsuc n` is -(n + 1)
abbrev pub error_code : Error → ℤ
error_code NotFound = negsuc 0
error_code General = negsuc 1
error_code Cancel = negsuc 2
error_code Argument = negsuc 5
error_code BadHandle = negsuc 7
error_code Overflow = negsuc 8
error_code AlreadyExists = negsuc 10
error_code Died = negsuc 12
error_code InUse = negsuc 13
error_code ServerTerminated = negsuc 14
error_code ServerBusy = negsuc 15
error_code BadDescriptor = negsuc 37
error_code PermissionDenied = negsuc 45
