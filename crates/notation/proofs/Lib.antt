mod Reading
mod RoundTrip
