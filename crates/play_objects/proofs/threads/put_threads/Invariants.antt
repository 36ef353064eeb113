use Rattle.std.proofs.Common.{◌≡◌, ◌++◌, drop, string_bytes}
use Rattle.play_objects.specs.EntryObjects.{thread_objects}
use Rattle.play_objects.proofs.threads.put_threads.Given as goal

abbrev pub invariant-loop-thread : goal.invariant-loop-thread
invariant-loop-thread l = string_bytes l.out ++ thread_objects (drop l.thread-index l.threads) ≡ string_bytes l.fn.out ++ thread_objects l.threads
