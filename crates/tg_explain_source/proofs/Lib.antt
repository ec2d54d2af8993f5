mod FirstFaults
