use Rattle.wide_editable.proofs.operations.apply_at.Goals as goal

pub push-requires : goal.push-requires
push-requires g c = rw c.in-Push.is at c.requires.ready

pub returns-in-Push-clause-made : goal.returns-in-Push-clause-made
returns-in-Push-clause-made g c = rw c.in-Push.is c.push.ensures.made

pub push_str-requires : goal.push_str-requires
push_str-requires g c = rw c.in-PushStr.is at c.requires.ready

pub returns-in-PushStr-clause-made : goal.returns-in-PushStr-clause-made
returns-in-PushStr-clause-made g c = rw c.in-PushStr.is c.push_str.ensures.made

pub returns-in-Pop-clause-made : goal.returns-in-Pop-clause-made
returns-in-Pop-clause-made g c = rw c.in-Pop.is c.pop.ensures.made

pub truncate-requires : goal.truncate-requires
truncate-requires g c = rw c.in-Truncate.is at c.requires.start

pub returns-in-Truncate-clause-made : goal.returns-in-Truncate-clause-made
returns-in-Truncate-clause-made g c = rw c.in-Truncate.is c.truncate.ensures.made

pub insert_str-requires-clause-found : goal.insert_str-requires-clause-found
insert_str-requires-clause-found g c = rw c.in-InsertStr.is at c.requires.start

pub insert_str-requires-clause-ready : goal.insert_str-requires-clause-ready
insert_str-requires-clause-ready g c = rw c.in-InsertStr.is at c.requires.ready

pub returns-in-InsertStr-clause-made : goal.returns-in-InsertStr-clause-made
returns-in-InsertStr-clause-made g c = rw c.in-InsertStr.is c.insert_str.ensures.made

pub remove-requires : goal.remove-requires
remove-requires g c = rw c.in-Remove.is at c.requires.start

pub returns-in-Remove-clause-made : goal.returns-in-Remove-clause-made
returns-in-Remove-clause-made g c = rw c.in-Remove.is c.remove.ensures.made

pub returns-in-Retain-clause-made : goal.returns-in-Retain-clause-made
returns-in-Retain-clause-made g c = rw c.in-Retain.is c.retain.ensures.made

pub drain-requires-clause-start : goal.drain-requires-clause-start
drain-requires-clause-start g c = rw c.in-Drain.is at c.requires.start

pub drain-requires-clause-end : goal.drain-requires-clause-end
drain-requires-clause-end g c = rw c.in-Drain.is at c.requires.end

pub drain-requires-clause-space : goal.drain-requires-clause-space
drain-requires-clause-space g c = rw c.in-Drain.is at c.requires.space

pub returns-in-Drain-clause-made : goal.returns-in-Drain-clause-made
returns-in-Drain-clause-made g c = rw c.in-Drain.is c.drain.ensures.made

pub replace-requires-clause-start : goal.replace-requires-clause-start
replace-requires-clause-start g c = rw c.in-Replace.is at c.requires.start

pub replace-requires-clause-end : goal.replace-requires-clause-end
replace-requires-clause-end g c = rw c.in-Replace.is at c.requires.end

pub replace-requires-clause-ready : goal.replace-requires-clause-ready
replace-requires-clause-ready g c = rw c.in-Replace.is at c.requires.ready

pub returns-in-Replace-clause-made : goal.returns-in-Replace-clause-made
returns-in-Replace-clause-made g c = rw c.in-Replace.is c.replace.ensures.made

pub split_off-requires-clause-found : goal.split_off-requires-clause-found
split_off-requires-clause-found g c = rw c.in-SplitOff.is at c.requires.start

pub split_off-requires-clause-space : goal.split_off-requires-clause-space
split_off-requires-clause-space g c = rw c.in-SplitOff.is at c.requires.space

pub returns-in-SplitOff-clause-made : goal.returns-in-SplitOff-clause-made
returns-in-SplitOff-clause-made g c = rw c.in-SplitOff.is c.split_off.ensures.made

pub returns-in-Clear-clause-made : goal.returns-in-Clear-clause-made
returns-in-Clear-clause-made g c = rw c.in-Clear.is c.clear.ensures.made
