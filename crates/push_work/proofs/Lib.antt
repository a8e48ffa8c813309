mod HostLemmas
mod PushLemmas
