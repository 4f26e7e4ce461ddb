-- What is known of a queue behind its lock.
use Rattle.std.specs.Prelude.{Bool, true, false}
use Rattle.board_channel.specs.declared.locked_queue.LockedQueue.{LockedQueue}
use Rattle.board_channel.specs.declared.locked_queue.LockedQueue.TheVariants.{Overflowing, Refusing}

-- whether it gives its oldest number back in place of a refusal
abbrev pub overflows : LockedQueue → Bool
overflows (Overflowing queue) = true
overflows (Refusing queue) = false
