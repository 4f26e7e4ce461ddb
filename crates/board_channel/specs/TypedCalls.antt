-- What typed calls answer, whatever the channels behind their lock have come to.
use Rattle.std.specs.Prelude.{◌≡◌, ℕ, Bool, true, false, Option, Some, None, Result, Ok, Err, ⊤}
use Rattle.board_names.specs.declared.errors.communication_channel.CommunicationChannelCreateError.{CommunicationChannelCreateError}
use Rattle.board_names.specs.declared.errors.communication_channel.CommunicationChannelCreateError.TheVariants as create_error
use Rattle.board_names.specs.declared.errors.communication_channel.CommunicationChannelOpenError.{CommunicationChannelOpenError}
use Rattle.board_names.specs.declared.errors.communication_channel.CommunicationChannelOpenError.TheVariants as open_error
use Rattle.board_names.specs.declared.errors.communication_channel.CommunicationChannelSendError.{CommunicationChannelSendError}
use Rattle.board_names.specs.declared.errors.communication_channel.CommunicationChannelSendError.TheVariants as send_error

-- a channel is made, or refused for one of two reasons
abbrev pub MayCreate : {T : Type 0} → Result T CommunicationChannelCreateError → Type 0
MayCreate (Ok end) = ⊤
MayCreate (Err create_error.AlreadyExists) = ⊤
MayCreate (Err create_error.OutOfMemory) = ⊤
MayCreate (Err _) = ⊥

-- a channel is opened, or refused for one of two reasons
abbrev pub MayOpen : {T : Type 0} → Result T CommunicationChannelOpenError → Type 0
MayOpen (Ok end) = ⊤
MayOpen (Err open_error.DoesNotExist) = ⊤
MayOpen (Err open_error.OutOfMemory) = ⊤
MayOpen (Err _) = ⊥

-- a number is sent: a channel that overflows may hand an older one back, and is never refused; another may be, as full
abbrev pub MaySend : Bool → Result (Option ℕ) CommunicationChannelSendError → Type 0
MaySend overflow (Ok None) = ⊤
MaySend overflow (Ok (Some oldest)) = overflow ≡ true
MaySend overflow (Err send_error.ReceiverCacheIsFull) = overflow ≡ false
MaySend overflow (Err _) = ⊥
