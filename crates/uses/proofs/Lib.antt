mod SteppedLemmas
mod CallerLemmas
mod BegunLemmas
mod LockLemmas
