use Rattle.script_parse.proofs.EntryLemmas.{goes_on, stops_one, stops_two, stops, is_done}
use Rattle.script_parse.proofs.values.entries_of.Goals as goal

pub returns-in_default-next : goal.returns-in_default-next
returns-in_default-next c = stops_one c.loop-word.entries.items _ _ _ _ c.in-Some.ensures c.in_default-next.ensures c.loop-word.invariant

pub returns-in_default-next-2 : goal.returns-in_default-next-2
returns-in_default-next-2 c = stops_two c.loop-word.entries.items _ _ _ _ _ _ c.in-Some.ensures c.in-Some-next.ensures c.in_default-next-2.ensures c.loop-word.invariant

pub returns-in_default-entry_of : goal.returns-in_default-entry_of
returns-in_default-entry_of c = stops c.loop-word.entries.items _ _ _ _ _ _ _ _ c.in-Some.ensures c.in-Some-next.ensures c.in-Some-next-2.ensures c.in_default-entry_of.ensures c.loop-word.invariant

pub loop-word-preserved : goal.loop-word-preserved
loop-word-preserved c =
    rw c.in_ok-push.ensures.items
    (goes_on c.loop-word.entries.items (record { key = c.in-Some-entry_of.key; value = c.in-Some-entry_of.value }) _ _ _ _ _ _ _ _ c.in-Some.ensures c.in-Some-next.ensures c.in-Some-next-2.ensures c.in-Some-entry_of.ensures c.loop-word.invariant)

pub returns : goal.returns
returns c = rw c.from_vec.ensures (is_done c.loop-word.entries.items _ _ c.in_default.ensures c.loop-word.invariant)
